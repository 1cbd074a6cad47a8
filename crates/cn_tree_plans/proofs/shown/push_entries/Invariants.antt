use Rattle.cn_tree_plans.specs.Listing.{AreListed}
use Rattle.cn_tree_plans.proofs.shown.push_entries.Given as goal

-- the entries before the one of this that is seen
abbrev pub invariant-loop-saw : goal.invariant-loop-saw
invariant-loop-saw l = AreListed l.sets l.limit l.response l.saw l.judged.items
