use Rattle.std.proofs.Common.{◌≡◌, map, take}
use Rattle.std.specs.Prelude.{slice_index}
use Rattle.cn_table.proofs.fewer_states.responses_in.Given as goal

-- the states so far
abbrev pub invariant-loop-state : goal.invariant-loop-state
invariant-loop-state l =
    l.copy.items ≡ map (λ q. slice_index l.response q) (take l.state-index l.kept)
