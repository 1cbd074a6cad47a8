use Rattle.std.proofs.Common.{◌≡◌, ◌++◌, All}
use Rattle.cn_choice.specs.Live.{live_blocks}
use Rattle.cn_search.specs.Search.{HaveFirstOf, IsListedBlock}
use Rattle.cn_search.proofs.starts.blocks_with_starts.Given as goal

-- the blocks so far and those that are left are all, and those that are kept have the first witness of the blocks so far
abbrev pub invariant-loop-block : goal.invariant-loop-block
invariant-loop-block g l = record {
  can_next : (goal.iterator-loop-block g).can_next l.block-iterator;
  is_finite : (goal.iterator-loop-block g).is_finite l.block-iterator;
  all : l.yielded ++ l.block-iterator ≡ live_blocks l.table l.n;
  listed : All (IsListedBlock l.table) l.blocks.items;
  first : HaveFirstOf l.table l.yielded l.blocks.items;
}
