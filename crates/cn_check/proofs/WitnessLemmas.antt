-- The witness of a certificate that is accepted.
use Rattle.std.proofs.Common.{◌≡◌, ◌∙◌, ℕ, ◌+◌, ◌≤◌, ◌==◌, length, length-append, arith, sym, subst, Bool, true, false, cond, Option, Some, None, IfSome}
use Rattle.cn_table.specs.TypeTable.{TypeTable}
use Rattle.cn_choice.specs.Canonical.{Choice, FitsTable, raw_choice_of}
use Rattle.cn_choice.specs.RawChoices.{IsRawChoice}
use Rattle.cn_cert.specs.Certificate.{Certificate}
use Rattle.cn_check.specs.Conditions.{HasWitnessFor}
use Rattle.cn_check.specs.Verdict.{IsAccepted}
use Rattle.cn_check.specs.Versions.{greatest_limit}

pub greatest_few : (version : ℕ) → greatest_limit version ≤ 8
greatest_few version = by_tests (version == 1) (version == 2)
  where
    by_tests : (one two : Bool) → cond one 6 (cond two 8 0) ≤ 8
    by_tests true two = omega arith
    by_tests false true = omega arith
    by_tests false false = omega arith

module _ (t : TypeTable) where
  pub fits_for : (n : ℕ) (c : Choice) → 2 ≤ n → n ≤ 8 → IsRawChoice t n (raw_choice_of c) → FitsTable t c
  fits_for n c some few raw =
      let many : n ≡ length c.a + length c.b = sym raw.one_operation_each ∙ length-append c.a c.b in
      record { fits = subst (λ (k : ℕ). IsRawChoice t k (raw_choice_of c)) many raw; some = omega (arith, some, many); few = omega (arith, few, many) }

  -- the witness is a choice of the table for 2 to 8 processes
  pub witness_fits : (c : Certificate) → IsAccepted t c → IfSome c.witness (FitsTable t)
  witness_fits c accepted = by_parts c.number c.witness accepted.in_range.number_in_limit accepted.witness_fits
    where
      few : c.limit ≤ 8
      few = omega (arith, accepted.in_range.few, greatest_few c.version)

      by_parts : (n : Option ℕ) (w : Option Choice) → IfSome n (λ k. (2 ≤ k) × (k ≤ c.limit)) → HasWitnessFor t n w → IfSome w (FitsTable t)
      by_parts None None range h = tt
      by_parts None (Some w) range h = absurd h
      by_parts (Some n) None range h = absurd h
      by_parts (Some n) (Some w) range h = fits_for n w range.0 (omega (arith, range.1, few)) h
