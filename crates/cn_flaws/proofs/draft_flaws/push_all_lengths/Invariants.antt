use Rattle.std.proofs.Common.{◌≡◌, ◌++◌, drop, map}
use Rattle.cn_table.specs.DraftView.{row_view}
use Rattle.cn_flaws.specs.Flaws.{flaws_view, each, row_lengths}
use Rattle.cn_flaws.proofs.draft_flaws.push_all_lengths.Given as goal

-- the flaws so far and those of the rest are all flaws
abbrev pub invariant-loop-i : goal.invariant-loop-i
invariant-loop-i l =
    flaws_view l.flaws ++ each (row_lengths l.states) l.i (map row_view (drop l.i l.rows))
    ≡ flaws_view l.initial.flaws ++ each (row_lengths l.states) 0 (map row_view l.rows)
