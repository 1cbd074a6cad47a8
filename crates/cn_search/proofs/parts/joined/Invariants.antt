use Rattle.std.proofs.Common.{◌≡◌, drop, take}
use Rattle.std.specs.Vec.Iter.{into_iter_items}
use Rattle.cn_search.specs.Search.{choices_of_all}
use Rattle.cn_search.specs.Kept.{KeepsFor}
use Rattle.cn_search.proofs.parts.joined.Given as goal

-- the evidence of the blocks so far, and the slots of the others
abbrev pub invariant-loop-slot : goal.invariant-loop-slot
invariant-loop-slot g l = record {
  can_next : (goal.iterator-loop-slot g).can_next l.slot-iterator;
  is_finite : (goal.iterator-loop-slot g).is_finite l.slot-iterator;
  left : into_iter_items l.slot-iterator ≡ drop l.place l.fn.slots.items;
  done : KeepsFor g.E.Evidence.keeps l.table (choices_of_all l.table (take l.place l.blocks)) l.evidence;
}
