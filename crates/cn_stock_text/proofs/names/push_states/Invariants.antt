use Rattle.std.proofs.Common.{◌≡◌, ◌++◌, string_bytes, take}
use Rattle.cn_stock_text.specs.Names.{states_listed}
use Rattle.cn_stock_text.proofs.names.push_states.Given as goal

-- the names so far
abbrev pub invariant-loop-state : goal.invariant-loop-state
invariant-loop-state l = string_bytes l.text ≡ string_bytes l.initial.text ++ states_listed l.table (take l.state-index l.states)
