use Rattle.std.proofs.Common.{◌≡◌, ◌++◌, drop, map, string_bytes}
use Rattle.cn_table.specs.DraftView.{row_view}
use Rattle.cn_flaws.specs.Flaws.{flaws_view, each, row_entries}
use Rattle.cn_flaws.proofs.draft_flaws.push_all_entries.Given as goal

-- the flaws so far and those of the rest are all flaws
abbrev pub invariant-loop-i : goal.invariant-loop-i
invariant-loop-i l =
    flaws_view l.flaws ++ each (row_entries (map (λ s. string_bytes s) l.states) (map (λ s. string_bytes s) l.responses)) l.i (map row_view (drop l.i l.rows))
    ≡ flaws_view l.initial.flaws ++ each (row_entries (map (λ s. string_bytes s) l.states) (map (λ s. string_bytes s) l.responses)) 0 (map row_view l.rows)
