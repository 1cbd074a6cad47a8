use Rattle.std.proofs.Common.{◌+◌, arith}
use Rattle.cn_reasons.proofs.Evidence.{none_recording}
use Rattle.cn_reasons.proofs.recoverable.no_more_than.Goals as goal

pub refutation_for-requires-clause-refuted : goal.refutation_for-requires-clause-refuted
refutation_for-requires-clause-refuted c =
    let t = c.args.table.now in
    none_recording t (c.args.n + 1) (c.live_choices_decide.ensures.shown t (c.args.n + 1)) (c.requires.number.3 (c.args.n + 1) (omega arith))
