-- All parts of a certificate together.
use Rattle.std.proofs.Common.{◌≡◌, Bool, true, ◌&&◌, Option, Some, is_some, IfSome, ap, sym, ◌∙◌, subst}

pub whole : {k a b l m t v : Bool} → k ≡ true → a ≡ true → b ≡ true → l ≡ true → m ≡ true → t ≡ true
    → v ≡ true → (k && (a && (b && (l && (m && (t && v)))))) ≡ true
whole k a b l m t v = rw (k, a, b, l, m, t, v)

-- what was told of something that is there
pub told_so : {X : Type 0} {o : Option X} {x : X} {b : Bool} → is_some o ≡ b → o ≡ Some x → b ≡ true
told_so told there = sym told ∙ ap is_some there

-- what holds of something that is there
pub holds_so : {X : Type 0} {o : Option X} {x : X} (P : X → Type 0) → IfSome o P → o ≡ Some x → P x
holds_so P h there = subst (λ o. IfSome o P) there h
