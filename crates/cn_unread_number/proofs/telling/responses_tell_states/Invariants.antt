use Rattle.std.proofs.Common.{◌<◌, ℕ}
use Rattle.cn_unread_number.specs.Agreeing.{TellsStates}
use Rattle.cn_unread_number.proofs.telling.responses_tell_states.Given as goal

-- each operation so far tells the states to which it leads
abbrev pub invariant-loop-operation : goal.invariant-loop-operation
invariant-loop-operation l = (o : ℕ) → o < l.operation → TellsStates l.table o
