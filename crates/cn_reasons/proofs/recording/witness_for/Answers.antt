use Rattle.std.proofs.Common.{arith}
use Rattle.cn_recover.specs.Recording.{IsRecordingWitness}
use Rattle.cn_reasons.proofs.Evidence.{first_fits}
use Rattle.cn_reasons.proofs.recording.witness_for.Goals as goal

pub recording_of-requires-clause-fits : goal.recording_of-requires-clause-fits
recording_of-requires-clause-fits g c =
    let first = rw c.in-Some.is at c.in_ok-choice.ensures in
    first_fits c.args.table.now (c.live_list.ensures.listed c.args.table.now) (IsRecordingWitness c.args.table.now) c.args.n c.in-Some.choice c.requires.few first

pub recording_of-requires-clause-is : goal.recording_of-requires-clause-is
recording_of-requires-clause-is g c = let first = rw c.in-Some.is at c.in_ok-choice.ensures in first.witness

pub unreachable-requires : goal.unreachable-requires
unreachable-requires g c =
    let none = rw c.in-None.is at c.in_ok-choice.ensures in
    c.live_choices_decide.ensures.refuted c.args.table.now c.args.n none (c.requires.recording (omega (arith, c.if-n-lt2.false)))
