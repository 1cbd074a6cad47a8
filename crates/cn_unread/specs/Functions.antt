-- Functions of numbers.
use Rattle.std.specs.Prelude.{ℕ, nat_eq, cond}

-- the function with another value at i
-- the same as put of cn_consensus
abbrev pub put : {X : Type 0} → (ℕ → X) → ℕ → X → ℕ → X
put f i x = λ j. cond (nat_eq j i) x (f j)
