use Rattle.std.proofs.Common.{◌≡◌, map, take}
use Rattle.cn_table.specs.Draft.{row_names}
use Rattle.cn_table.specs.DraftView.{row_view, texts_view}
use Rattle.cn_flaws.proofs.draft_flaws.operation_names.Given as goal

-- the names so far
abbrev pub invariant-loop-row : goal.invariant-loop-row
invariant-loop-row l = texts_view l.names ≡ row_names (map row_view (take l.row-index l.rows))
