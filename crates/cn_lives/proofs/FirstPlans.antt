-- The first recording witness, and the number of processes of its plan.
use Rattle.std.proofs.Common.{◌≡◌, ℕ, ◌+◌, ◌≤◌, inl, inr, Contains, length, length-append, sym, ap}
use Rattle.std.proofs.Common.{◌∙◌, subst, arith}
use Rattle.cn_table.specs.TypeTable.{TypeTable}
use Rattle.cn_table.proofs.Lists.{Contains-between}
use Rattle.cn_choice.specs.Canonical.{Choice, FitsTable, raw_choice_of}
use Rattle.cn_choice.specs.Live.{live_choices}
use Rattle.cn_choice.specs.RawChoices.{IsRawChoice}
use Rattle.cn_choice.specs.declared.limits.TheConstants.{MOST_PROCESSES}
use Rattle.cn_finding.specs.Evidence.{IsFirst}
use Rattle.cn_recover.specs.Recording.{IsRecordingWitness}
use Rattle.cn_lives.specs.Plans.{IsHomeForm}

module _ (t : TypeTable) (n : ℕ) (w : Choice)
    (first : IsFirst (IsRecordingWitness t) (live_choices t n) w) where
  pub stands : Contains (live_choices t n) w
  stands = Contains-between (live_choices t n) first.before first.after w (sym first.listed)

  module _ (raw : IsRawChoice t n (raw_choice_of w)) where
    many : length w.a + length w.b ≡ n
    many = sym (length-append w.a w.b) ∙ raw.one_operation_each

    pub found_fits : 2 ≤ n → n ≤ MOST_PROCESSES → FitsTable t w
    found_fits some few = record {
      fits = subst (λ (k : ℕ). IsRawChoice t k (raw_choice_of w)) (sym many) raw;
      some = omega (arith, some, many);
      few = omega (arith, few, many);
    }

    pub home_many : (d : Choice) → IsHomeForm t w d → length d.a + length d.b ≡ n
    home_many d (inl h) = ap (λ (c : Choice). length c.a + length c.b) h.1 ∙ many
    home_many d (inr h) = ap (λ (c : Choice). length c.a + length c.b) h.1
        ∙ omega (arith, many)
