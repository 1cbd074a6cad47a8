use Rattle.std.proofs.Common.{◌∙◌, ap, subst, sym, true≢false}
use Rattle.cn_choice.specs.Canonical.{Choice, raw_choice_of}
use Rattle.cn_choice.specs.declared.team.Team.TheVariants.{A, B}
use Rattle.cn_outcomes.specs.LeftStates.{LeavesIn}
use Rattle.cn_reasons.proofs.RecordingLemmas.{no_team}
use Rattle.cn_reasons.proofs.recording.reader_of.Goals as goal

pub returns-else-contains-2 : goal.returns-else-contains-2
returns-else-contains-2 c =
    let t = c.args.table.now in
    let choice = c.args.choice.now in
    let start = sym (ap (λ (x : Choice). x.state) c.choice.view_is) in
    let q = c.choice.inside.state.0 in
    no_team t (raw_choice_of choice) choice.state
    (λ left. true≢false (sym (c.contains.ensures.found.1 ((c.requires.from_a q).1 (subst (LeavesIn t (raw_choice_of choice) A) start left))) ∙ c.if-contains.false))
    (λ left. true≢false (sym (c.contains-else-contains.ensures.found.1 ((c.requires.from_b q).1 (subst (LeavesIn t (raw_choice_of choice) B) start left))) ∙ c.if-contains-2.false))
