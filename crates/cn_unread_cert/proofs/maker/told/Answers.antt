use Rattle.std.proofs.Common.{Some, arith, subst}
use Rattle.cn_unread_cert.proofs.Told.{fewer_to}
use Rattle.cn_unread_cert.specs.Kept.{AreReadsShown}
use Rattle.cn_unread_cert.proofs.maker.told.Goals as goal

pub told_for-requires-clause-reads : goal.told_for-requires-clause-reads
told_for-requires-clause-reads c = λ two.
    let t = c.args.table.now in
    let reads : AreReadsShown t (Some c.in-Some.n) = subst (AreReadsShown t) c.in-Some.is c.requires.reads in
    fewer_to t (c.monotonicity.ensures t) c.min.result c.in-Some.n two (omega (arith, c.min.ensures))
    (reads.1 (omega (arith, two, c.min.ensures)))
