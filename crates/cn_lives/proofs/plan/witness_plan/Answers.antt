use Rattle.cn_choice.specs.Canonical.{raw_choice_of}
use Rattle.cn_choice.specs.FirstMeeting.{IsFirstMeeting}
use Rattle.cn_lives.proofs.plan.witness_plan.Goals as goal

pub unreachable-requires : goal.unreachable-requires
unreachable-requires c =
    let t = c.args.table.now in
    let raw = raw_choice_of c.args.choice.now in
    let m : IsFirstMeeting t raw c.in-Err-Meets.field-0-0 =
    rw c.in-Err-Meets.field-0-is at c.in-Err-Meets.ensures in
    c.recording_witness_is_witness.ensures.witness t raw c.requires.recording
    c.in-Err-Meets.field-0-0 m.meets.0 m.meets.1 m.meets.2
