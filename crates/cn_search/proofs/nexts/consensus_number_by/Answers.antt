use Rattle.std.proofs.Common.{sym, ◌∙◌}
use Rattle.cn_search.proofs.NumberLemmas.{always_by_found}
use Rattle.cn_search.proofs.nexts.consensus_number_by.Goals as goal

pub returns-then-is_some : goal.returns-then-is_some
returns-then-is_some g c =
    always_by_found c.args.table.now (c.lasting_operations_decide.ensures.always c.args.table.now) c.find_lasting.result c.find_lasting.ensures.found
    (sym c.is_some.ensures ∙ c.if-is_some.true)
