use Rattle.std.proofs.Common.{◌≡◌, ℕ, All, None, length, slice_index_or}
use Rattle.std.specs.Vec.Iter.{into_iter_items}
use Rattle.cn_search.specs.Parts.{AreSlots, IsPartOf}
use Rattle.cn_search.proofs.parts.slots_of.Given as goal

-- an empty slot for each block so far
abbrev pub invariant-loop-block : goal.invariant-loop-block
invariant-loop-block g l = record {
  long : length l.slots.items ≡ l._block-index;
  none : (place : ℕ) → slice_index_or l.slots.items place None ≡ None;
}

-- the slots are filled with the parts of the lists so far, and each part of the others is that of its block
abbrev pub invariant-loop-parts : goal.invariant-loop-parts
invariant-loop-parts g l = record {
  can_next : (goal.iterator-loop-parts g).can_next l.parts-iterator;
  is_finite : (goal.iterator-loop-parts g).is_finite l.parts-iterator;
  slots : AreSlots g.E.Evidence.keeps l.table l.blocks l.slots.items;
  left : All (λ parts. All (IsPartOf g.E.Evidence.keeps l.table l.blocks) parts.items) (into_iter_items l.parts-iterator);
}
