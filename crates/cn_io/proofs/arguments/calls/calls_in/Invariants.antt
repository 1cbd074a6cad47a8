use Rattle.std.proofs.Common.{◌≡◌, map, take}
use Rattle.cn_io.specs.Arguments.Calls.{calls_in}
use Rattle.cn_io.proofs.arguments.calls.calls_in.Given as goal

-- the calls so far
abbrev pub invariant-loop-list : goal.invariant-loop-list
invariant-loop-list l = map (λ calls. calls.items) l.calls.items ≡ calls_in l.object (map (λ list. list.items) (take l.list-index l.lists))
