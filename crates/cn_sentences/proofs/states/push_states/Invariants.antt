use Rattle.std.proofs.Common.{◌≡◌, ◌++◌, string_bytes, take}
use Rattle.cn_sentences.specs.States.{states_told}
use Rattle.cn_sentences.proofs.states.push_states.Given as goal

-- the names so far
abbrev pub invariant-loop-state : goal.invariant-loop-state
invariant-loop-state l = string_bytes l.text ≡ string_bytes l.initial.text ++ states_told l.table (take l.state-index l.states)
