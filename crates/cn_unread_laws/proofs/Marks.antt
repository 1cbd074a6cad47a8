-- Texts without a character, as numbers in digits.
use Rattle.std.proofs.Common.{◌≡◌, ◌≢◌, ℕ, ◌<◌, ◌^◌, List, [], ◌∷◌, ◌++◌}
use Rattle.std.proofs.Common.{refl, sym, ap, ◌∙◌, subst, arith, inl, inr, ◌⊎◌}
use Rattle.std.specs.Fmt.{decimal}
use Rattle.std.specs.List.{AllByRecursion}
use Rattle.std.specs.Str.Parse.{AllDigits}
use Rattle.std.proofs.lemmas.Fmt.{digits_decimal}
use Rattle.std.proofs.lemmas.Str.Parse.{numerals_by_value, tells_digits}

-- the character does not stand in the text
abbrev pub HasNo : ℕ → List ℕ → Type 0
HasNo mark text = AllByRecursion (λ c. c ≢ mark) text

-- a text with the character has it
has_mark : (mark : ℕ) (before after : List ℕ) → HasNo mark (before ++ mark ∷ after) → ⊥
has_mark mark [] after free = free.0 refl
has_mark mark (c ∷ before) after free = has_mark mark before after free.1

pub differs : (mark : ℕ) (before after text : List ℕ) → HasNo mark text → before ++ mark ∷ after ≡ text → ⊥
differs mark before after text free e = has_mark mark before after (subst (HasNo mark) (sym e) free)

pub joined : (mark : ℕ) (a b : List ℕ) → HasNo mark a → HasNo mark b → HasNo mark (a ++ b)
joined mark [] b p q = q
joined mark (c ∷ a) b p q = (p.0, joined mark a b p.1 q)

-- texts without the character in front of it are equal where the whole is, and so are the rests
pub before_mark : (mark : ℕ) (x y u v : List ℕ) → HasNo mark x → HasNo mark y
    → x ++ mark ∷ u ≡ y ++ mark ∷ v → (x ≡ y) × (u ≡ v)
before_mark mark [] [] u v p q e = (refl, cc e)
before_mark mark [] (d ∷ y) u v p q e = let f : mark ≡ d = cc e in absurd (q.0 (sym f))
before_mark mark (c ∷ x) [] u v p q e = let f : c ≡ mark = cc e in absurd (p.0 f)
before_mark mark (c ∷ x) (d ∷ y) u v p q e =
    let f : c ≡ d = cc e in
    let rest = before_mark mark x y u v p.1 q.1 (cc e) in
    (ap (λ (z : List ℕ). c ∷ z) rest.0 ∙ ap (λ (z : ℕ). z ∷ y) f, rest.1)

pub digits_of_decimal : (n : ℕ) → n < 2 ^ 64 → AllDigits 10 (decimal n)
digits_of_decimal n l = digits_decimal (numerals_by_value (AllDigits 10) tells_digits) n l

pub no_digit : (mark : ℕ) → (mark < 48) ⊎ (57 < mark) → (text : List ℕ) → AllDigits 10 text
    → HasNo mark text
no_digit mark out [] d = tt
no_digit mark out (c ∷ text) d =
    let parts = tells_digits.parts c text d in (
      λ e. elim out [
        | inl l ↦ absurd (omega (arith, parts.0, e, l))
        | inr l ↦ absurd (omega (arith, parts.0, e, l))
      ],
      no_digit mark out text parts.1,
    )
