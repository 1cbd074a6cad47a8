use Rattle.std.proofs.Common.{◌+◌, ap, arith, flat_map, length, take}
use Rattle.std.proofs.lemmas.List.{length-take}
use Rattle.cn_changes.specs.Pairs.{pairs_with}
use Rattle.cn_changes.specs.declared.pairs.TheConstants.{MOST_PAIRS}
use Rattle.cn_changes.proofs.Cutting.{parts_step}
use Rattle.cn_changes.proofs.pairs.pairs_among.Goals as goal

pub push_pairs-requires : goal.push_pairs-requires
push_pairs-requires c =
    omega (arith, ap length c.loop-first.invariant, length-take (MOST_PAIRS + 1) (flat_map (pairs_with c.args.changes.now) (take c.loop-first.first-index c.args.changes.now)))

pub loop-first-preserved : goal.loop-first-preserved
loop-first-preserved c =
    parts_step (MOST_PAIRS + 1) (pairs_with c.args.changes.now) c.args.changes.now c.loop-first.first-index _ c.loop-first.pairs.items c.push_pairs.new.pairs.items
    c.loop-first-test.true c.loop-first.invariant c.in_ok-push_pairs.ensures
