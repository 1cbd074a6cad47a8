use Rattle.std.proofs.Common.{◌↔◌, ℕ, sym, subst}
use Rattle.std.specs.Prelude.{IsBitSet}
use Rattle.cn_choice.specs.Canonical.{raw_choice_of}
use Rattle.cn_choice.specs.RawChoices.{RawChoice}
use Rattle.cn_choice.specs.declared.team.Team.TheVariants.{A}
use Rattle.cn_outcomes.specs.LeftStates.{LeavesIn}
use Rattle.cn_lives.proofs.Planning.{planned}
use Rattle.cn_lives.proofs.plan.plan_of.Goals as goal
use Rattle.cn_lives.proofs.plan.plan_of.Goals.{In_ok-first_teams}

-- the set that was computed
left : (c : In_ok-first_teams) → (q : ℕ) → IsBitSet c.left_states-left_by_a.result q
    ↔ LeavesIn c.args.table.now (raw_choice_of c.args.choice.now) A q
left c q = (
  λ h. subst (λ (r : RawChoice). LeavesIn c.args.table.now r A q) c.of.ensures
      ((c.left_states-left_by_a.ensures q).0 h),
  λ h. (c.left_states-left_by_a.ensures q).1
      (subst (λ (r : RawChoice). LeavesIn c.args.table.now r A q) (sym c.of.ensures) h),
)

pub invariant_of-result : goal.invariant_of-result
invariant_of-result c =
    planned c.args.table.now c.args.choice.now c.in_ok-plan.plan c.plans_are_sound.ensures.plan
    c.in_ok-plan.ensures.table c.in_ok-plan.ensures.choice c.left_states-left_by_a.result
    c.states.result c.in_ok-first_teams.first_teams.items c.requires.recording (left c)
    c.states.ensures.number c.in_ok-first_teams.ensures
    (λ h. c.requires.home ((left c c.args.choice.now.state).0 h))
