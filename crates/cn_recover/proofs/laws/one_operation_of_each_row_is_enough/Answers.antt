use Rattle.std.proofs.Common.{◌↔◌, sym, subst}
use Rattle.cn_table.specs.TypeTable.{TypeTable}
use Rattle.cn_recover.specs.Recording.{IsRecording}
use Rattle.cn_recover.proofs.RowCarrying.{same_with_rows}
use Rattle.cn_recover.proofs.laws.one_operation_of_each_row_is_enough.Goals as goal

pub returns-clause-some : goal.returns-clause-some
returns-clause-some c = λ t operations known has n. same_with_rows t operations known has n

pub returns-clause-rows : goal.returns-clause-rows
returns-clause-rows c = λ t u (operations, rows, is) n.
    subst (λ (v : TypeTable). IsRecording t n ↔ IsRecording v n) (sym is) (same_with_rows t operations rows.are.known rows.each n)
