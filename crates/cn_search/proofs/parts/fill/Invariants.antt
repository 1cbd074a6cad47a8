use Rattle.std.proofs.Common.{All}
use Rattle.std.specs.Vec.Iter.{into_iter_items}
use Rattle.cn_search.specs.Parts.{AreSlots, IsPartOf}
use Rattle.cn_search.proofs.parts.fill.Given as goal

-- the slots are filled with the parts so far, and each part that is left is that of its block
abbrev pub invariant-loop-part : goal.invariant-loop-part
invariant-loop-part g l = record {
  can_next : (goal.iterator-loop-part g).can_next l.part-iterator;
  is_finite : (goal.iterator-loop-part g).is_finite l.part-iterator;
  slots : AreSlots g.E.Evidence.keeps l.table l.blocks l.slots.items;
  left : All (IsPartOf g.E.Evidence.keeps l.table l.blocks) (into_iter_items l.part-iterator);
}
