-- How many stocks there are.
use Rattle.std.proofs.Common.{ℕ, zero, suc, ◌+◌, ◌-◌, ◌^◌, ◌≤◌, ◌≡◌, arith, refl}
use Rattle.std.proofs.Math.Nat.{pow-suc}
use Rattle.std.proofs.lemmas.Nat.{pow_pos}
use Rattle.cn_stocks.specs.Counts.{count_of_stocks}

pub few_stocks : (operations n m : ℕ) → operations + n ≤ m → count_of_stocks operations n ≤ 2 ^ m
few_stocks operations zero m l = omega (arith, pow_pos m)
few_stocks zero (suc n) m l = omega arith
few_stocks (suc operations) (suc n) zero l = absurd (omega arith)
few_stocks (suc operations) (suc n) (suc m) l = omega (arith, few_stocks (suc operations) n m (omega arith), few_stocks operations (suc n) m (omega arith), pow-suc 2 m)

pub count_step : (operations n : ℕ) → 1 ≤ operations → 1 ≤ n → count_of_stocks operations (n - 1) + count_of_stocks (operations - 1) n ≡ count_of_stocks operations n
count_step zero n l u = absurd (omega (arith, l))
count_step (suc operations) zero l u = absurd (omega (arith, u))
count_step (suc operations) (suc n) l u =
    let a : suc n - 1 ≡ n = omega arith in
    let b : suc operations - 1 ≡ operations = omega arith in
    rw (a, b) refl
