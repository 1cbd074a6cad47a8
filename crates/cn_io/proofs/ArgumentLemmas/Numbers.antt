-- Numbers in decimal digits, as `parse` reads them.
use Rattle.std.proofs.Common.{◌≡◌, ℕ, ◌+◌, ◌^◌, ◌<◌, ◌≤◌, inl, inr, List, length, Bool, true, false, Option, Some, None, Result, Ok, Err, arith, rules, refl, sym, ap, ◌∙◌, nat_le}
use Rattle.std.specs.Prelude.{option_and_then, if◌then◌else◌}
use Rattle.std.specs.Char.{is_ascii_digit}
use Rattle.std.specs.List.{list_all}
use Rattle.std.specs.Result.{result_ok}
use Rattle.std.specs.Str.Parse.{ParsesUnsigned, digits_value}
use Rattle.std.proofs.lemmas.Bool.{le-leb, lt-leb, cases_lt}
use Rattle.std.proofs.lemmas.Str.Parse.{IsNumeralModel, numerals_by_value, parse_digits}
use Rattle.cn_io.specs.Arguments.Lists.{number_up_to}

digits_write : IsNumeralModel (λ ds. list_all is_ascii_digit ds ≡ true) (digits_value 10)
digits_write = numerals_by_value _ (search rules)

-- the number, if the text is a number that is small enough
abbrev kept : ℕ → Bool → ℕ → Option ℕ
kept greatest is_number n = option_and_then (λ m. if nat_le m greatest then Some m else None) (if is_number then Some n else None)

too_great : (greatest : ℕ) (b : Bool) (n : ℕ) → greatest < n → kept greatest b n ≡ None
too_great greatest true n great = rw (lt-leb n greatest great) refl
too_great greatest false n great = refl

empty_is_none : (greatest : ℕ) (text : List ℕ) → list_all is_ascii_digit text ≡ true → length text ≡ 0 → number_up_to greatest text ≡ None
empty_is_none greatest text digits empty = rw (digits, empty) refl

pub small_is_some : (greatest : ℕ) (text : List ℕ) → list_all is_ascii_digit text ≡ true → 0 < length text → length text ≤ 20 → digits_value 10 text ≤ greatest
    → number_up_to greatest text ≡ Some (digits_value 10 text)
small_is_some greatest text digits some few small = rw (digits, le-leb 1 (length text) some, le-leb (length text) 20 few, le-leb (digits_value 10 text) greatest small) refl

-- `parse` on digits alone: the number that it reads, or its refusal
pub parsed : {E : Type 0} (k greatest : ℕ) (text : List ℕ) (r : Result ℕ E) → greatest + 1 ≡ 2 ^ k → ParsesUnsigned k 10 text r → list_all is_ascii_digit text ≡ true → length text ≤ 20
    → result_ok r ≡ number_up_to greatest text
parsed {E} k greatest text (Ok n) top read digits few =
    let h = parse_digits digits_write {E = E} k text (Ok n) read digits in
    ap Some h.1 ∙ sym (small_is_some greatest text digits h.0.0 few (omega (arith, h.0.1, top)))
parsed {E} k greatest text (Err e) top read digits few =
    let h = parse_digits digits_write {E = E} k text (Err e) read digits in
    sym (elim (cases_lt 0 (length text)) [
      | inl some ↦ (elim (cases_lt (digits_value 10 text) (2 ^ k)) [
        | inl small ↦ absurd (h (some, small))
        | inr great ↦ too_great greatest _ (digits_value 10 text) (omega (arith, great, top))
      ])
      | inr empty ↦ empty_is_none greatest text digits (omega (arith, empty))
    ])
