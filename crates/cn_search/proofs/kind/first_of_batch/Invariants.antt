use Rattle.std.specs.Vec.Iter.{into_iter_items}
use Rattle.cn_search.proofs.Batches.{IsJoining}
use Rattle.cn_search.proofs.kind.first_of_batch.Given as goal

abbrev pub invariant-loop-witness : goal.invariant-loop-witness
invariant-loop-witness g l = IsJoining l.table (g.K.Kind.holds l.table) l.blocks (into_iter_items l.witness-iterator)
