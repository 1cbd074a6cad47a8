use Rattle.std.proofs.Common.{◌≡◌}
use Rattle.cn_text.specs.Grid.{answers_alike}
use Rattle.cn_text.proofs.grid.answers_alike.Given as goal

-- whether so many states get one response
abbrev pub invariant-loop-state : goal.invariant-loop-state
invariant-loop-state l = l.is_alike ≡ answers_alike l.table l.operation.0 l.state
