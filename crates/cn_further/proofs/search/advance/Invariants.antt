use Rattle.std.proofs.Common.{◌<◌, length, All, vec_len}
use Rattle.cn_further.proofs.search.advance.Given as goal

abbrev pub invariant-loop-last : goal.invariant-loop-last
invariant-loop-last l = All (λ f. f.further.0 < length l.table.operations) l.follow_ups.items

abbrev pub decreases-loop-last : goal.decreases-loop-last
decreases-loop-last l = vec_len l.follow_ups
