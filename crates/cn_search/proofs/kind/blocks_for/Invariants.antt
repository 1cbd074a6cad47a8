use Rattle.std.proofs.Common.{◌≡◌, ◌++◌}
use Rattle.cn_choice.specs.Live.{live_blocks}
use Rattle.cn_search.proofs.kind.blocks_for.Given as goal

-- the blocks so far and those that are left are all
abbrev pub invariant-loop-block : goal.invariant-loop-block
invariant-loop-block l = record {
  can_next : (goal.iterator-loop-block).can_next l.block-iterator;
  is_finite : (goal.iterator-loop-block).is_finite l.block-iterator;
  all : l.blocks.items ++ l.block-iterator ≡ live_blocks l.table l.n;
}
