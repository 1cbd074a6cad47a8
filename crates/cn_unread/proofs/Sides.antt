-- A process of each team of a choice, and a third one.
use Rattle.std.proofs.Common.{◌≡◌, ◌≢◌, ℕ, zero, suc, ◌<◌, sym, ap, ◌∙◌, arith, Some}
use Rattle.std.specs.Prelude.{slice_get}
use Rattle.std.proofs.lemmas.Option.{slice_get-get_or}
use Rattle.cn_table.specs.TypeTable.{TypeTable}
use Rattle.cn_choice.specs.RawChoices.{IsRawChoice, RawChoice}
use Rattle.cn_choice.specs.declared.team.Team.TheVariants.{A, B}

pub record Sides (n : ℕ) (c : RawChoice) : Type 0 where
  pub a : ℕ
  pub b : ℕ
  pub a_known : a < n
  pub b_known : b < n
  pub a_mark : slice_get c.marks a ≡ Some A
  pub b_mark : slice_get c.marks b ≡ Some B
  pub apart : a ≢ b

pub sides : (t : TypeTable) (n : ℕ) (c : RawChoice) → IsRawChoice t n c → Sides n c
sides t n c is = record {
  a = is.someone_in_a.0;
  b = is.someone_in_b.0;
  a_known = omega (arith, is.someone_in_a.1, is.one_team_each);
  b_known = omega (arith, is.someone_in_b.1, is.one_team_each);
  a_mark = mark_a;
  b_mark = mark_b;
  apart = λ e. differ (sym mark_a ∙ (ap (slice_get c.marks) e ∙ mark_b));
}
  where
    mark_a : slice_get c.marks is.someone_in_a.0 ≡ Some A
    mark_a =
        slice_get-get_or c.marks is.someone_in_a.0 A is.someone_in_a.1 ∙ ap Some is.someone_in_a.2

    mark_b : slice_get c.marks is.someone_in_b.0 ≡ Some B
    mark_b =
        slice_get-get_or c.marks is.someone_in_b.0 B is.someone_in_b.1 ∙ ap Some is.someone_in_b.2

    differ : Some A ≡ Some B → ⊥
    differ s = absurd (cc s)

-- of the first three numbers, one that is neither k nor l
pub third : (k l : ℕ) → (m : ℕ) × (m < 3) × (k ≢ m) × (l ≢ m)
third zero zero = (1, omega arith, omega arith, omega arith)
third zero (suc zero) = (2, omega arith, omega arith, omega arith)
third zero (suc (suc l)) = (1, omega arith, omega arith, omega arith)
third (suc zero) zero = (2, omega arith, omega arith, omega arith)
third (suc zero) (suc l) = (0, omega arith, omega arith, omega arith)
third (suc (suc k)) zero = (1, omega arith, omega arith, omega arith)
third (suc (suc k)) (suc l) = (0, omega arith, omega arith, omega arith)
