-- Why a number is no more: the ways for so many processes, none of which works.
use Rattle.std.specs.Prelude.{◌≡◌, ℕ, ◌+◌, List, length, take, Bool, nat_lt, if◌then◌else◌}
use Rattle.std.specs.Prelude.{Option, Some, None}
use Rattle.std.specs.List.{AllZip}
use Rattle.cn_form.specs.declared.limits.TheConstants.{MOST_TOLD}
use Rattle.cn_reasons.specs.declared.refutation.Refutation.{Refutation}

-- what is told of a list: all of it, or the first MOST_TOLD
abbrev pub first_told : {X : Type 0} → Bool → List X → List X
first_told all xs = if all then xs else take MOST_TOLD xs

-- the refutation for n processes by a list: the way of each that is told, and the number of all and
-- of those that are not told
pub record IsRefutationOf {X W : Type 0} (IsWay : X → W → Type 0) (n : ℕ) (all : Bool) (xs : List X)
    (r : Refutation W) : Type 0 where
  pub processes : r.processes ≡ n
  pub ways : AllZip IsWay (first_told all xs) r.ways.items
  pub count : r.count ≡ length xs
  pub more : r.count ≡ length r.ways.items + r.more

-- for how many processes a certificate up to a limit refutes the choices: for one more than its
-- number, or for two without one; for none if its number is its limit
abbrev pub refuted_processes : ℕ → Option ℕ → Option ℕ
refuted_processes limit None = Some 2
refuted_processes limit (Some n) = if nat_lt n limit then Some (n + 1) else None
