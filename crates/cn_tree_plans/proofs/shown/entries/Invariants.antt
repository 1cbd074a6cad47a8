use Rattle.cn_tree_plans.specs.Listing.{AreListed}
use Rattle.cn_tree_plans.proofs.shown.entries.Given as goal

-- the entries of the responses so far
abbrev pub invariant-loop-response : goal.invariant-loop-response
invariant-loop-response l = AreListed l.sets l.limit l.response 0 l.judged.items
