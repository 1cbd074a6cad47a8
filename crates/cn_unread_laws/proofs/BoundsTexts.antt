-- Different bounds have different texts.
use Rattle.std.proofs.Common.{◌≡◌, ℕ, ◌<◌, ◌^◌, List, [], ◌∷◌, ◌++◌, codes}
use Rattle.std.proofs.Common.{refl, sym, ap, ap₂, ◌∙◌, append_assoc, arith, inl, inr, lit<}
use Rattle.std.specs.Fmt.{decimal}
use Rattle.std.proofs.lemmas.Fmt.{decimal_injective}
use Rattle.std.proofs.lemmas.List.{append_cancel_left}
use Rattle.cn_unread_number.specs.BoundsText.{bounds_text}
use Rattle.cn_unread_number.specs.declared.bounds.NumberBounds.{NumberBounds}
use Rattle.cn_unread_number.specs.declared.bounds.NumberBounds.TheVariants.{AtLeast, Between, Exactly}
use Rattle.cn_unread_number.specs.declared.bounds.NumberBounds.TheVariants.{Infinite}
use Rattle.cn_unread_laws.specs.Bounds.{AreSmall}
use Rattle.cn_unread_laws.proofs.Marks.{HasNo, before_mark, differs, digits_of_decimal, no_digit}

no_comma : (n : ℕ) → n < 2 ^ 64 → HasNo 44 (decimal n)
no_comma n l = no_digit 44 (inl (lit< tt)) (decimal n) (digits_of_decimal n l)

no_a : (n : ℕ) → n < 2 ^ 64 → HasNo 97 (decimal n)
no_a n l = no_digit 97 (inr (lit< tt)) (decimal n) (digits_of_decimal n l)

no_i : (n : ℕ) → n < 2 ^ 64 → HasNo 105 (decimal n)
no_i n l = no_digit 105 (inr (lit< tt)) (decimal n) (digits_of_decimal n l)

between_parts : (least most : ℕ) → bounds_text (Between least most)
    ≡ codes "at least " ++ (decimal least ++ 44 ∷ (codes " at most " ++ (decimal most ++ 44 ∷ codes " not decided")))
between_parts least most =
    append_assoc (codes "at least " ++ decimal least ++ codes ", at most ") (decimal most) (codes ", not decided")
    ∙ (append_assoc (codes "at least " ++ decimal least) (codes ", at most ") (decimal most ++ codes ", not decided")
    ∙ append_assoc (codes "at least ") (decimal least) (codes ", at most " ++ (decimal most ++ codes ", not decided")))

at_least_parts : (least : ℕ) → bounds_text (AtLeast least)
    ≡ codes "at least " ++ (decimal least ++ 44 ∷ codes " no upper bound found")
at_least_parts least = append_assoc (codes "at least ") (decimal least) (codes ", no upper bound found")

-- a number, a comma and what is behind it
first_number : (m n : ℕ) (u v : List ℕ) → m < 2 ^ 64 → n < 2 ^ 64
    → decimal m ++ 44 ∷ u ≡ decimal n ++ 44 ∷ v → (m ≡ n) × (u ≡ v)
first_number m n u v k l e =
    let parts = before_mark 44 (decimal m) (decimal n) u v (no_comma m k) (no_comma n l) e in
    (decimal_injective m n k l parts.0, parts.1)

first_differs : (c d : ℕ) (u v : List ℕ) → c < d → c ∷ u ≡ d ∷ v → ⊥
first_differs c d u v l e = let f : c ≡ d = cc e in absurd (omega (arith, l, f))

exactly_not_infinite : (n : ℕ) → n < 2 ^ 64 → bounds_text (Exactly n) ≡ bounds_text Infinite → ⊥
exactly_not_infinite n l e = differs 105 [] _ (decimal n) (no_i n l) (sym e)

exactly_not_between : (n least most : ℕ) → n < 2 ^ 64
    → bounds_text (Exactly n) ≡ bounds_text (Between least most) → ⊥
exactly_not_between n least most l e = differs 97 [] _ (decimal n) (no_a n l) (sym e)

exactly_not_at_least : (n least : ℕ) → n < 2 ^ 64 → bounds_text (Exactly n) ≡ bounds_text (AtLeast least) → ⊥
exactly_not_at_least n least l e = differs 97 [] _ (decimal n) (no_a n l) (sym e)

infinite_not_between : (least most : ℕ) → bounds_text Infinite ≡ bounds_text (Between least most) → ⊥
infinite_not_between least most e = first_differs 97 105 _ _ (lit< tt) (sym e)

infinite_not_at_least : (least : ℕ) → bounds_text Infinite ≡ bounds_text (AtLeast least) → ⊥
infinite_not_at_least least e = first_differs 97 105 _ _ (lit< tt) (sym e)

between_not_at_least : (least most n : ℕ) → least < 2 ^ 64 → n < 2 ^ 64
    → bounds_text (Between least most) ≡ bounds_text (AtLeast n) → ⊥
between_not_at_least least most n k l e =
    let parts = first_number least n _ _ k l (append_cancel_left (codes "at least ") _ _
    (sym (between_parts least most) ∙ (e ∙ at_least_parts n))) in
    first_differs 97 110 _ _ (lit< tt) (append_cancel_left (codes " ") _ _ parts.1)

pub same_bounds : (x y : NumberBounds) → AreSmall x → AreSmall y → bounds_text x ≡ bounds_text y → x ≡ y
same_bounds (Exactly m) (Exactly n) k l e = ap (λ (i : ℕ). Exactly i) (decimal_injective m n k l e)
same_bounds (Exactly m) Infinite k l e = absurd (exactly_not_infinite m k e)
same_bounds (Exactly m) (Between c d) k l e = absurd (exactly_not_between m c d k e)
same_bounds (Exactly m) (AtLeast n) k l e = absurd (exactly_not_at_least m n k e)
same_bounds Infinite (Exactly n) k l e = absurd (exactly_not_infinite n l (sym e))
same_bounds Infinite Infinite k l e = refl
same_bounds Infinite (Between c d) k l e = absurd (infinite_not_between c d e)
same_bounds Infinite (AtLeast n) k l e = absurd (infinite_not_at_least n e)
same_bounds (Between a b) (Exactly n) k l e = absurd (exactly_not_between n a b l (sym e))
same_bounds (Between a b) Infinite k l e = absurd (infinite_not_between a b (sym e))
same_bounds (Between a b) (Between c d) k l e =
    let parts = first_number a c _ _ k.0 l.0 (append_cancel_left (codes "at least ") _ _
    (sym (between_parts a b) ∙ (e ∙ between_parts c d))) in
    let rest = first_number b d _ _ k.1 l.1 (append_cancel_left (codes " at most ") _ _ parts.1) in
    ap₂ (λ (i j : ℕ). Between i j) parts.0 rest.0
same_bounds (Between a b) (AtLeast n) k l e = absurd (between_not_at_least a b n k.0 l e)
same_bounds (AtLeast m) (Exactly n) k l e = absurd (exactly_not_at_least n m l (sym e))
same_bounds (AtLeast m) Infinite k l e = absurd (infinite_not_at_least m (sym e))
same_bounds (AtLeast m) (Between c d) k l e = absurd (between_not_at_least c d m l.0 k (sym e))
same_bounds (AtLeast m) (AtLeast n) k l e =
    let parts = first_number m n _ _ k l (append_cancel_left (codes "at least ") _ _
    (sym (at_least_parts m) ∙ (e ∙ at_least_parts n))) in
    ap (λ (i : ℕ). AtLeast i) parts.0
