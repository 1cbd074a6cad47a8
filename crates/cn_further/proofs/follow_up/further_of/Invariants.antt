use Rattle.std.proofs.Common.{◌≡◌, drop}
use Rattle.cn_further.specs.FurtherNodes.{further_of}
use Rattle.cn_further.proofs.follow_up.further_of.Given as goal

-- those so far are for others
abbrev pub invariant-loop-follow_up : goal.invariant-loop-follow_up
invariant-loop-follow_up l = further_of (drop l.follow_up-index l.follow_ups) l.own.0 l.answer.0 ≡ further_of l.follow_ups l.own.0 l.answer.0
