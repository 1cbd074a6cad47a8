-- Teams of these sizes, numbered one after the other.
use Rattle.std.proofs.Common.{ℕ, zero, suc, ◌≡◌, ◌↔◌, ◌+◌, ◌-◌, ◌<◌, ◌≤◌, Bool, true, false, List, [], ◌∷◌, length, nat_lt, slice_index, refl, arith, if◌then◌else◌, add-one}
use Rattle.std.specs.Prelude.{All, sum}
use Rattle.std.proofs.lemmas.Bool.Decides.{nat_tests}
use Rattle.std.proofs.lemmas.List.Elements.{All-head, All-tail}
use Rattle.cn_tree_costs.specs.Sizes.{block}
use Rattle.cn_tree_costs.proofs.Numbers.{long_sum, sum_cons}
use Rattle.cn_tree_plans.specs.Listing.{start_of}

start_suc : (sizes : List ℕ) (g : ℕ) → g < length sizes → start_of sizes (suc g) ≡ start_of sizes g + slice_index sizes g
start_suc [] g l = absurd (omega arith)
start_suc (m ∷ sizes) zero l = go sizes
  where
    go : (sizes : List ℕ) → m + start_of sizes 0 ≡ 0 + m
    go [] = omega arith
    go (x ∷ sizes) = omega arith
start_suc (m ∷ sizes) (suc g) l = let i = start_suc sizes g (omega arith) in omega arith

pub start_next : (sizes : List ℕ) (g : ℕ) → g < length sizes → start_of sizes (g + 1) ≡ start_of sizes g + slice_index sizes g
start_next sizes g l = rw add-one (start_suc sizes g l)

pub start_within : (sizes : List ℕ) (g : ℕ) → g < length sizes → start_of sizes g + slice_index sizes g ≤ sum sizes
start_within [] g l = absurd (omega arith)
start_within (m ∷ sizes) zero l = omega (arith, sum_cons m sizes)
start_within (m ∷ sizes) (suc g) l = let i = start_within sizes g (omega arith) in omega (arith, sum_cons m sizes)

-- no team has all processes
pub size_less : (sizes : List ℕ) (g : ℕ) → All (λ m. 1 ≤ m) sizes → g < length sizes → slice_index sizes g + length sizes ≤ sum sizes + 1
size_less [] g all l = absurd (omega arith)
size_less (m ∷ sizes) zero all l = let i = long_sum sizes (All-tail (λ m. 1 ≤ m) m sizes all) in omega (arith, sum_cons m sizes)
size_less (m ∷ sizes) (suc g) all l =
    let i = size_less sizes g (All-tail (λ m. 1 ≤ m) m sizes all) (omega arith) in
    let h = All-head (λ m. 1 ≤ m) m sizes all in omega (arith, sum_cons m sizes)

pub size_some : (sizes : List ℕ) (g : ℕ) → All (λ m. 1 ≤ m) sizes → g < length sizes → 1 ≤ slice_index sizes g
size_some [] g all l = absurd (omega arith)
size_some (m ∷ sizes) zero all l = All-head (λ m. 1 ≤ m) m sizes all
size_some (m ∷ sizes) (suc g) all l = size_some sizes g (All-tail (λ m. 1 ≤ m) m sizes all) (omega arith)

-- the processes of a team
pub in_block : (sizes : List ℕ) (g k : ℕ) → g < length sizes → (block sizes k ≡ g) ↔ ((start_of sizes g ≤ k) × (k < start_of sizes g + slice_index sizes g))
in_block [] g k l = absurd (omega arith)
in_block (m ∷ sizes) zero k l = go (nat_lt k m) refl
  where
    go : (b : Bool) → nat_lt k m ≡ b → ((if b then 0 else suc (block sizes (k - m))) ≡ 0) ↔ ((0 ≤ k) × (k < 0 + m))
    go true e = (λ h. (omega arith, grind (arith, nat_tests)), λ h. refl)
    go false e = (λ h. absurd (omega arith), λ h. (let u = h.1 in let v : m ≤ k = grind (arith, nat_tests) in absurd (omega arith)))
in_block (m ∷ sizes) (suc g) k l = go (nat_lt k m) refl (in_block sizes g (k - m) (omega arith))
  where
    go : (b : Bool) → nat_lt k m ≡ b → (block sizes (k - m) ≡ g) ↔ ((start_of sizes g ≤ k - m) × (k - m < start_of sizes g + slice_index sizes g))
        → ((if b then 0 else suc (block sizes (k - m))) ≡ suc g) ↔ ((m + start_of sizes g ≤ k) × (k < m + start_of sizes g + slice_index sizes g))
    go true e rest = (λ h. absurd (omega arith), λ h. (let u = h.0 in let v : k < m = grind (arith, nat_tests) in absurd (omega arith)))
    go false e rest =
        let v : m ≤ k = grind (arith, nat_tests) in (
          λ h. (let i = rest.0 (omega arith) in let a = i.0 in let b = i.1 in (omega arith, omega arith)),
          λ h. (let a = h.0 in let b = h.1 in let i = rest.1 (omega arith, omega arith) in omega arith),
        )
