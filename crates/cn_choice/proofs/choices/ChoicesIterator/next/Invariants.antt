use Rattle.std.proofs.Common.{◌≡◌, ◌≤◌, ◌++◌, [], All, length}
use Rattle.std.specs.List.{flat_map}
use Rattle.std.specs.Option.{unwrap_or}
use Rattle.cn_choice.specs.Blocks.{Block, IsBlockOf}
use Rattle.cn_choice.specs.Live.{live_in}
use Rattle.cn_choice.proofs.choices.ChoicesIterator.next.Given as goal

-- the blocks passed have no choice left
abbrev pub invariant-loop-choice : goal.invariant-loop-choice
invariant-loop-choice l = record {
  same_table : l.self-inside.table.now ≡ l.initial.self-inside.table.now;
  blocks : All (λ (k : Block). (2 ≤ k.n) × IsBlockOf l.self-inside.table.now k) l.self-inside.blocks;
  left : unwrap_or l.initial.self-inside.current [] ++ flat_map (live_in l.self-inside.table.now) l.initial.self-inside.blocks
      ≡ unwrap_or l.self-inside.current [] ++ flat_map (live_in l.self-inside.table.now) l.self-inside.blocks;
}

abbrev pub decreases-loop-choice : goal.decreases-loop-choice
decreases-loop-choice l = length l.self-inside.blocks
