-- The plan of a recording witness, from the set of the states that orders of team A leave.
use Rattle.std.proofs.Common.{◌≡◌, ℕ, ◌<◌, ◌↔◌, List, length, refl, sym, ap, ◌∙◌, subst}
use Rattle.std.specs.Prelude.{IsBitSet, slice_index_or}
use Rattle.cn_table.specs.TypeTable.{TypeTable}
use Rattle.cn_choice.specs.Canonical.{Choice, raw_choice_of}
use Rattle.cn_choice.specs.RawChoices.{RawChoice}
use Rattle.cn_choice.specs.declared.team.Team.{Team}
use Rattle.cn_choice.specs.declared.team.Team.TheVariants.{A, B}
use Rattle.cn_outcomes.specs.LeftStates.{LeavesIn}
use Rattle.cn_proto.specs.Plan.{IsPlan, Plan}
use Rattle.cn_recover.specs.Recording.{IsRecordingWitness}
use Rattle.cn_lives.specs.Plans.{AreTeamsOf, IsRecordingPlan}

-- a team that is not team A
pub other_than_a : (team : Team) → (team ≡ A → ⊥) → team ≡ B
other_than_a A n = absurd (n refl)
other_than_a B n = refl

module _ (t : TypeTable) (c : Choice) (plan : Plan) (is : IsPlan plan) (table : plan.table ≡ t)
    (choice : plan.choice ≡ c) where
  raw_is : raw_choice_of c ≡ raw_choice_of plan.choice
  raw_is = ap raw_choice_of (sym choice)

  leaves_is : (team : Team) (q : ℕ) → LeavesIn t (raw_choice_of c) team q
      ↔ LeavesIn plan.table (raw_choice_of plan.choice) team q
  leaves_is team q = (
    λ h. subst (λ (u : TypeTable). LeavesIn u (raw_choice_of plan.choice) team q) (sym table)
        (subst (λ (r : RawChoice). LeavesIn t r team q) raw_is h),
    λ h. subst (λ (r : RawChoice). LeavesIn t r team q) (sym raw_is)
        (subst (λ (u : TypeTable). LeavesIn u (raw_choice_of plan.choice) team q) table h),
  )

  pub planned : (set states : ℕ) (teams : List Team) → IsRecordingWitness t (raw_choice_of c)
      → ((q : ℕ) → IsBitSet set q ↔ LeavesIn t (raw_choice_of c) A q) → states ≡ length t.states
      → AreTeamsOf set states teams → (IsBitSet set c.state → ⊥)
      → IsRecordingPlan (record { plan = plan; first_teams = teams })
  planned set states teams w left many are home =
      let same : states ≡ length plan.table.states =
      many ∙ ap (λ (u : TypeTable). length u.states) (sym table) in
      let each : (q : ℕ) → q < length plan.table.states
      → (slice_index_or teams q B ≡ A) ↔ IsBitSet set q =
      λ q l. are.each q (subst (λ (k : ℕ). q < k) (sym same) l) in
      record {
        is_plan = is;
        recording = subst (λ (u : TypeTable). IsRecordingWitness u (raw_choice_of plan.choice))
            (sym table) (subst (IsRecordingWitness t) raw_is w);
        teams_are = are.count ∙ same;
        left = λ q l. (
          λ e. (leaves_is A q).0 ((left q).0 ((each q l).0 e)),
          λ h. (each q l).1 ((left q).1 ((leaves_is A q).1 h)),
        );
        home = other_than_a (slice_index_or teams plan.choice.state B)
            (λ e. home (subst (IsBitSet set) (ap (λ (d : Choice). d.state) choice)
            ((each plan.choice.state is.fits.fits.state_known).0 e)));
      }
