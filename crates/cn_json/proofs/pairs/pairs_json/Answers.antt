use Rattle.std.proofs.Common.{arith}
use Rattle.cn_json.proofs.KnownSets.{known_sets, known_smallest}
use Rattle.cn_json.proofs.pairs.pairs_json.Goals as goal

pub write_pairs-requires : goal.write_pairs-requires
write_pairs-requires c = record {
  alone = known_sets c.args.table.now 1 c.args.pairs.now.alone.items (omega arith) c.requires.alone;
  pairs = known_sets c.args.table.now 2 c.args.pairs.now.pairs.items (omega arith) c.requires.pairs;
  smallest = known_smallest c.args.table.now c.args.pairs.now.number c.args.pairs.now.smallest c.requires.smallest;
}
