-- A line of `classify` tells which number it was written for.
use Rattle.std.proofs.Common.{◌≡◌, ◌≢◌, ℕ, ◌<◌, ◌^◌, List, [], ◌∷◌, ◌++◌, codes, Option, Some, None}
use Rattle.std.proofs.Common.{Bool, true, false, refl, sym, ap, ◌∙◌, subst, append_assoc, arith, inl, inr, ◌⊎◌, lit<}
use Rattle.std.specs.Prelude.{nat_lt, if◌then◌else◌}
use Rattle.std.specs.Fmt.{decimal}
use Rattle.std.specs.List.{AllByRecursion}
use Rattle.std.specs.Str.Parse.{AllDigits}
use Rattle.std.proofs.lemmas.Bool.{ltb-true}
use Rattle.std.proofs.lemmas.Fmt.{decimal_digit, decimal_injective, digits_decimal}
use Rattle.std.proofs.lemmas.List.{append_cancel_left, append_cancel_right}
use Rattle.std.proofs.lemmas.Str.Parse.{numerals_by_value, tells_digits}
use Rattle.cn_app.specs.Commands.Classify.{line_with, line_with_both, number_words}
use Rattle.cn_headline.specs.ConsensusNumber.{IsBelow, IsNumberText, TextAtLeast, TextExactly, TextInfinite}
use Rattle.cn_headline.specs.ConsensusNumber.{at_least, exactly, infinite, told}

-- ---- texts without a character

-- the character does not stand in the text
abbrev pub HasNo : ℕ → List ℕ → Type 0
HasNo mark text = AllByRecursion (λ c. c ≢ mark) text

-- a text with the character has it
has_mark : (mark : ℕ) (before after : List ℕ) → HasNo mark (before ++ mark ∷ after) → ⊥
has_mark mark [] after free = free.0 refl
has_mark mark (c ∷ before) after free = has_mark mark before after free.1

pub differs : (mark : ℕ) (before after text : List ℕ) → HasNo mark text → before ++ mark ∷ after ≡ text → ⊥
differs mark before after text free e = has_mark mark before after (subst (HasNo mark) (sym e) free)

joined : (mark : ℕ) (a b : List ℕ) → HasNo mark a → HasNo mark b → HasNo mark (a ++ b)
joined mark [] b p q = q
joined mark (c ∷ a) b p q = (p.0, joined mark a b p.1 q)

-- texts without the character in front of it are equal where the whole is, and so are the rests
before_mark : (mark : ℕ) (x y u v : List ℕ) → HasNo mark x → HasNo mark y
    → x ++ mark ∷ u ≡ y ++ mark ∷ v → (x ≡ y) × (u ≡ v)
before_mark mark [] [] u v p q e = (refl, cc e)
before_mark mark [] (d ∷ y) u v p q e = let f : mark ≡ d = cc e in absurd (q.0 (sym f))
before_mark mark (c ∷ x) [] u v p q e = let f : c ≡ mark = cc e in absurd (p.0 f)
before_mark mark (c ∷ x) (d ∷ y) u v p q e =
    let f : c ≡ d = cc e in
    let rest = before_mark mark x y u v p.1 q.1 (cc e) in
    (ap (λ (z : List ℕ). c ∷ z) rest.0 ∙ ap (λ (z : ℕ). z ∷ y) f, rest.1)

-- ---- digits

digits_of_decimal : (n : ℕ) → n < 2 ^ 64 → AllDigits 10 (decimal n)
digits_of_decimal n l = digits_decimal (numerals_by_value (AllDigits 10) tells_digits) n l

no_digit : (mark : ℕ) → (mark < 48) ⊎ (57 < mark) → (text : List ℕ) → AllDigits 10 text
    → HasNo mark text
no_digit mark out [] d = tt
no_digit mark out (c ∷ text) d =
    let parts = tells_digits.parts c text d in (
      λ e. elim out [
        | inl l ↦ absurd (omega (arith, parts.0, e, l))
        | inr l ↦ absurd (omega (arith, parts.0, e, l))
      ],
      no_digit mark out text parts.1,
    )

-- ---- the words of a number

one_written : decimal 1 ≡ codes "1"
one_written = decimal_digit 1 (omega arith)

-- a comma, the letter a, the letter i
abbrev pub IsMark : ℕ → Type 0
IsMark mark = (mark < 48) ⊎ (57 < mark)

comma : IsMark 44
comma = inl (lit< tt)

letter_a : IsMark 97
letter_a = inr (lit< tt)

letter_i : IsMark 105
letter_i = inr (lit< tt)

exactly_without : (mark n : ℕ) → IsMark mark → n < 2 ^ 64 → HasNo mark (exactly n)
exactly_without mark n out l = no_digit mark out (decimal n) (digits_of_decimal n l)

-- a character below another one is not it
other : (c mark : ℕ) → (c < mark) ⊎ (mark < c) → c ≢ mark
other c mark (inl l) e = absurd (omega (arith, l, e))
other c mark (inr l) e = absurd (omega (arith, l, e))

at_least_no_comma : (n : ℕ) → n < 2 ^ 64 → HasNo 44 (at_least n)
at_least_no_comma n l =
    joined 44 (codes "at least ") (decimal n) (
      other 97 44 (inr (lit< tt)),
      (
        other 116 44 (inr (lit< tt)),
        (
          other 32 44 (inl (lit< tt)),
          (
            other 108 44 (inr (lit< tt)),
            (
              other 101 44 (inr (lit< tt)),
              (
                other 97 44 (inr (lit< tt)),
                (
                  other 115 44 (inr (lit< tt)),
                  (other 116 44 (inr (lit< tt)), (other 32 44 (inl (lit< tt)), tt)),
                ),
              ),
            ),
          ),
        ),
      ),
    ) (exactly_without 44 n comma l)

at_least_no_i : (n : ℕ) → n < 2 ^ 64 → HasNo 105 (at_least n)
at_least_no_i n l =
    joined 105 (codes "at least ") (decimal n) (
      other 97 105 (inl (lit< tt)),
      (
        other 116 105 (inr (lit< tt)),
        (
          other 32 105 (inl (lit< tt)),
          (
            other 108 105 (inr (lit< tt)),
            (
              other 101 105 (inl (lit< tt)),
              (
                other 97 105 (inl (lit< tt)),
                (
                  other 115 105 (inr (lit< tt)),
                  (other 116 105 (inr (lit< tt)), (other 32 105 (inl (lit< tt)), tt)),
                ),
              ),
            ),
          ),
        ),
      ),
    ) (exactly_without 105 n letter_i l)

-- a character that is not one of those of infinite
infinite_without : (mark : ℕ) → (mark < 101) → HasNo mark infinite
infinite_without mark low = (
  other 105 mark (inr (omega (arith, low))),
  (
    other 110 mark (inr (omega (arith, low))),
    (
      other 102 mark (inr (omega (arith, low))),
      (
        other 105 mark (inr (omega (arith, low))),
        (
          other 110 mark (inr (omega (arith, low))),
          (
            other 105 mark (inr (omega (arith, low))),
            (other 116 mark (inr (omega (arith, low))), (other 101 mark (inr (omega (arith, low))), tt)),
          ),
        ),
      ),
    ),
  ),
)

pub same_exactly : (m n : ℕ) → m < 2 ^ 64 → n < 2 ^ 64 → exactly m ≡ exactly n → m ≡ n
same_exactly m n k l e = decimal_injective m n k l e

pub same_at_least : (m n : ℕ) → m < 2 ^ 64 → n < 2 ^ 64 → at_least m ≡ at_least n → m ≡ n
same_at_least m n k l e =
    decimal_injective m n k l (append_cancel_left (codes "at least ") (decimal m) (decimal n) e)

pub exactly_not_at_least : (m n : ℕ) → m < 2 ^ 64 → exactly m ≡ at_least n → ⊥
exactly_not_at_least m n l e = differs 97 [] _ (exactly m) (exactly_without 97 m letter_a l) (sym e)

pub exactly_not_infinite : (m : ℕ) → m < 2 ^ 64 → exactly m ≡ infinite → ⊥
exactly_not_infinite m l e = differs 105 [] _ (exactly m) (exactly_without 105 m letter_i l) (sym e)

pub at_least_not_infinite : (m : ℕ) → m < 2 ^ 64 → at_least m ≡ infinite → ⊥
at_least_not_infinite m l e = differs 105 [] _ (at_least m) (at_least_no_i m l) (sym e)

-- ---- numbers up to a limit in words

-- the number is none, or is small enough to be written
abbrev pub IsSmall : Option ℕ → Type 0
IsSmall None = Unit {0}
IsSmall (Some n) = n < 2 ^ 64

-- the words of a number up to a limit are those of a number that is below it, or of a number at least
pub words_up_to : (limit : ℕ) (number : Option ℕ)
    → (IsBelow limit number × (number_words limit number ≡ exactly (told number)))
    ⊎ (number_words limit number ≡ at_least (told number))
words_up_to limit None = inl (tt, sym one_written)
words_up_to limit (Some n) = by_test (nat_lt n limit) refl
  where
    by_test : (b : Bool) → nat_lt n limit ≡ b
        → ((n < limit) × ((if b then decimal n else (codes "at least " ++ decimal n)) ≡ exactly n))
        ⊎ ((if b then decimal n else (codes "at least " ++ decimal n)) ≡ at_least n)
    by_test true t = inl (ltb-true n limit t, refl)
    by_test false t = inr refl

pub told_small : (number : Option ℕ) → IsSmall number → told number < 2 ^ 64
told_small None s = omega arith
told_small (Some n) s = s

-- ---- lines

pub words_of_line : (name x y : List ℕ) → line_with name x ≡ line_with name y → x ≡ y
words_of_line name x y e =
    append_cancel_left (name ++ codes ": ") x y
    (append_cancel_right (name ++ codes ": " ++ x) (name ++ codes ": " ++ y) (codes "\n") e)

pub text_no_comma : (words : List ℕ) → IsNumberText words → HasNo 44 words
text_no_comma words (TextExactly {n} l) = exactly_without 44 n comma l
text_no_comma words (TextAtLeast {n} l) = at_least_no_comma n l
text_no_comma words TextInfinite = infinite_without 44 (lit< tt)

-- the parts of a line with both numbers
pub words_of_both : (name a b x y : List ℕ) → HasNo 44 a → HasNo 44 x
    → line_with_both name a b ≡ line_with_both name x y → (a ≡ x) × (b ≡ y)
words_of_both name a b x y p q e =
    let same : start ++ a ++ between ++ b ≡ start ++ x ++ between ++ y =
    append_cancel_right (start ++ a ++ between ++ b) (start ++ x ++ between ++ y) (codes "\n") e in
    let parts = before_mark 44 a x _ _ p q (append_cancel_left start _ _ (sym (right a b) ∙ (same ∙ right x y))) in
    (parts.0, append_cancel_left (codes " recoverable ") b y parts.1)
  where
    start : List ℕ
    start = name ++ codes ": "

    between : List ℕ
    between = codes ", recoverable "

    right : (u v : List ℕ) → start ++ u ++ between ++ v ≡ start ++ (u ++ (between ++ v))
    right u v = append_assoc (start ++ u) between v ∙ append_assoc start u (between ++ v)
