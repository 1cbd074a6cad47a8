use Rattle.cn_signs.proofs.Rows.{HasResponses}
use Rattle.cn_signs.proofs.responses.responses_in.Given as goal

-- the responses in the states so far
abbrev pub invariant-loop-state : goal.invariant-loop-state
invariant-loop-state l = HasResponses l.table l.operation.0 l.states l.state l.responses
