use Rattle.std.proofs.Common.{◌<◌, length, All}
use Rattle.cn_further.proofs.search.follow_ups_for.Given as goal

abbrev pub invariant-loop-tries : goal.invariant-loop-tries
invariant-loop-tries l = All (λ f. f.further.0 < length l.table.operations) l.follow_ups.items

abbrev pub decreases-loop-tries : goal.decreases-loop-tries
decreases-loop-tries l = l.tries
