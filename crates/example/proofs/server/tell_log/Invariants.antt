use Rattle.std.proofs.Common.{◌<◌, length}
use Rattle.example.proofs.server.tell_log.Given as goal

-- the state is one of the counter's
abbrev pub invariant-loop-entry : goal.invariant-loop-entry
invariant-loop-entry g l = l.state.0 < length l.counter.states
