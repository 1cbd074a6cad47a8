use Rattle.std.proofs.Common.{◌≡◌}
use Rattle.cn_tree_plans.specs.Listing.{AreShown, start_of}
use Rattle.cn_tree_plans.proofs.shown.all_shown.Given as goal

-- the sets of the teams so far, and the first process of the next one
abbrev pub invariant-loop-size : goal.invariant-loop-size
invariant-loop-size l = record {
  shown : AreShown l.table l.meeting l.sizes l.k l.size-index l.sets.items;
  low : l.low ≡ start_of l.sizes l.size-index;
}
