-- A text of one digit.
use Rattle.std.proofs.Common.{◌≡◌, ℕ, ◌+◌, ◌-◌, ◌≤◌, List, [], ◌∷◌, length, Some, slice_index, sym, ap, ◌∙◌, arith}
use Rattle.std.proofs.lemmas.Fmt.{decimal_digit}
use Rattle.serde_json.specs.Data.{unsigned}
use Rattle.serde_json.specs.Read.{number_of}
use Rattle.serde_json.proofs.Numbers.{number_of-decimal}

pub digit_read : (text : List ℕ) → length text ≡ 1 → 48 ≤ slice_index text 0 → slice_index text 0 ≤ 57 → number_of text ≡ Some (unsigned (slice_index text 0 - 48))
digit_read [] one low high = absurd (omega (arith, one))
digit_read (b ∷ c ∷ rest) one low high = absurd (omega (arith, one))
digit_read (b ∷ []) one low high =
    let same : 48 + (b - 48) ≡ b = omega (arith, low) in
    ap number_of (ap (λ x. x ∷ []) (sym same) ∙ sym (decimal_digit (b - 48) (omega (arith, high, low)))) ∙ number_of-decimal (b - 48) (omega (arith, high, low))
