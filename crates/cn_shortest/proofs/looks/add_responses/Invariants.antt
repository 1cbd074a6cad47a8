use Rattle.std.proofs.Common.{◌≡◌, ◌++◌, map, take}
use Rattle.cn_shortest.specs.Looks.{by_response}
use Rattle.cn_shortest.proofs.looks.add_responses.Given as goal

-- those of the first operations
abbrev pub invariant-loop-place : goal.invariant-loop-place
invariant-loop-place l = l.sights.items ≡ l.fn.sights.items ++ map by_response (take l.place l.list)
