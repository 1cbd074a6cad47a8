use Rattle.std.proofs.Common.{All, take}
use Rattle.cn_telling.specs.Rows.{HaveOneRow}
use Rattle.cn_recover.proofs.rows.has_row_of.Given as goal

-- none of these so far has the row
abbrev pub invariant-loop-earlier : goal.invariant-loop-earlier
invariant-loop-earlier l = All (λ o. ¬ HaveOneRow l.table l.fn.operation.0 o.0) (take l.earlier-index l.operations)
