use Rattle.std.proofs.Common.{◌≡◌, ◌≤◌, length, IfSome}
use Rattle.cn_choice.specs.Blocks.{Block, IsBlock}
use Rattle.cn_choice.specs.LiveLeft.{all_blocks_left, live_blocks_left}
use Rattle.cn_choice.proofs.blocks.BlocksIterator.next.Given as goal

-- in each block skipped, some operation of team A does not lead away
abbrev pub invariant-loop-block : goal.invariant-loop-block
invariant-loop-block l = record {
  same_table : l.self-inside.table.now ≡ l.table;
  block : IfSome l.self-inside.next (λ (k : Block). (2 ≤ k.n) × IsBlock l.states l.operations k);
  left : live_blocks_left l.table l.initial.self-inside.next ≡ live_blocks_left l.table l.self-inside.next;
}

abbrev pub decreases-loop-block : goal.decreases-loop-block
decreases-loop-block l = length (all_blocks_left l.table l.self-inside.next)
