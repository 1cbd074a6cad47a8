use Rattle.std.proofs.Common.{◌≡◌, ◌<◌, All, length}
use Rattle.cn_choice.specs.LiveLeft.{block_after, live_after}
use Rattle.cn_choice.proofs.ChoiceLemmas.BlockWalk.{choice_of}
use Rattle.cn_choice.proofs.block_choices.advance_live.Given as goal

-- the search has passed only choices that are not live
abbrev pub invariant-loop-choice : goal.invariant-loop-choice
invariant-loop-choice l = record {
  known : All (λ operation. operation < l.operations) l.choice-inside.b.items;
  same_state : l.choice-inside.state.0 ≡ l.fn.choice.state;
  same_a : l.choice-inside.a.items ≡ l.fn.choice.a;
  left : live_after l.table l.fn.choice ≡ live_after l.table (choice_of l.choice-inside.state.0 l.choice-inside.a.items l.choice-inside.b.items);
}

abbrev pub decreases-loop-choice : goal.decreases-loop-choice
decreases-loop-choice l = length (block_after l.operations (choice_of l.choice-inside.state.0 l.choice-inside.a.items l.choice-inside.b.items))
