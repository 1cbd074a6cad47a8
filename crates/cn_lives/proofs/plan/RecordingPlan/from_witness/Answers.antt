use Rattle.std.proofs.Common.{sym, subst}
use Rattle.cn_choice.specs.Canonical.{Choice, FitsTable, raw_choice_of}
use Rattle.cn_choice.specs.declared.team.Team.TheVariants.{A}
use Rattle.cn_outcomes.specs.LeftStates.{LeavesIn}
use Rattle.cn_recover.specs.Recording.{IsRecordingWitness}
use Rattle.cn_lives.proofs.Exchange.{exchanged_fits, exchanged_home, exchanged_records}
use Rattle.cn_lives.proofs.plan.RecordingPlan.from_witness.Goals as goal

pub plan_of-requires-clause-fits : goal.plan_of-requires-clause-fits
plan_of-requires-clause-fits c =
    subst (FitsTable c.args.table.now) (sym c.exchanged.ensures)
    (exchanged_fits c.args.choice.now c.args.table.now c.requires)

pub plan_of-requires-clause-recording : goal.plan_of-requires-clause-recording
plan_of-requires-clause-recording c =
    let t = c.args.table.now in
    let yes = c.is_recording_witness.ensures.0 c.if-not-is_recording_witness.false in
    subst (λ (d : Choice). IsRecordingWitness t (raw_choice_of d)) (sym c.exchanged.ensures)
    (exchanged_records c.args.choice.now t (c.renumbering.ensures.some t)
    (c.renumbering.ensures.exchanged t (raw_choice_of c.args.choice.now) yes))

pub plan_of-requires-clause-home : goal.plan_of-requires-clause-home
plan_of-requires-clause-home c =
    let t = c.args.table.now in
    let yes = c.is_recording_witness.ensures.0 c.if-not-is_recording_witness.false in
    subst (λ (d : Choice). LeavesIn t (raw_choice_of d) A d.state → ⊥) (sym c.exchanged.ensures)
    (exchanged_home c.args.choice.now t yes (c.comes_back.ensures.0 c.if-comes_back.true))
