use Rattle.std.proofs.Common.{◌≡◌, flat_map, length}
use Rattle.std.specs.List.{range_with_len}
use Rattle.cn_reasons.specs.Sights.{sees, sights_if}
use Rattle.cn_reasons.proofs.sight.sights.Given as goal

-- the sights with the responses so far
abbrev pub invariant-loop-response : goal.invariant-loop-response
invariant-loop-response l = l.seen.items ≡ flat_map (sights_if (sees l.table l.choice l.fn.team l.process) (length l.table.states)) (range_with_len 0 l.response)
