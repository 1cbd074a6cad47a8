use Rattle.cn_telling.proofs.RowLemmas.{splits_by_rows, splits_replaced}
use Rattle.cn_telling.proofs.laws.one_operation_of_a_row_is_enough.Goals as goal

pub returns-clause-replaced : goal.returns-clause-replaced
returns-clause-replaced c t start a b stock other row many has_a has_b s = splits_replaced a b other t row start stock has_a many has_b s

pub returns-clause-rows : goal.returns-clause-rows
returns-clause-rows c t n start some h = splits_by_rows t n start some h
