use Rattle.std.proofs.Common.{◌≡◌, [], map, take, string_bytes}
use Rattle.std.specs.Prelude.{slice_index_or}
use Rattle.cn_table.specs.DraftView.{texts_view}
use Rattle.cn_table.proofs.fewer_states.names_of.Given as goal

-- the states so far
abbrev pub invariant-loop-state : goal.invariant-loop-state
invariant-loop-state l =
    texts_view l.copy ≡ map (λ q. slice_index_or (map (λ s. string_bytes s) l.names) q []) (take l.state-index l.kept)
