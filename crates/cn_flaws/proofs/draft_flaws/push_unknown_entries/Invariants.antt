use Rattle.std.proofs.Common.{◌≡◌, ◌++◌, drop, map, string_bytes}
use Rattle.cn_flaws.specs.Flaws.{flaws_view, each, unknown_entry}
use Rattle.cn_flaws.proofs.draft_flaws.push_unknown_entries.Given as goal

-- the flaws so far and those of the rest are all flaws
abbrev pub invariant-loop-k : goal.invariant-loop-k
invariant-loop-k l =
    flaws_view l.flaws ++ each (unknown_entry l.i l.operation l.row l.what (map (λ s. string_bytes s) l.names)) l.k (map (λ s. string_bytes s) (drop l.k l.texts))
    ≡ flaws_view l.initial.flaws ++ each (unknown_entry l.i l.operation l.row l.what (map (λ s. string_bytes s) l.names)) 0 (map (λ s. string_bytes s) l.texts)
