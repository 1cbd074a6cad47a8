use Rattle.std.proofs.Common.{sym, ◌∙◌}
use Rattle.cn_search.proofs.NumberLemmas.{always_by_found, always_up_to}
use Rattle.cn_search.proofs.up_to.number_up_to.Goals as goal

pub returns-then-is_some : goal.returns-then-is_some
returns-then-is_some g c =
    let t = c.args.table.now in
    always_up_to t c.args.limit c.requires.some
    (always_by_found t (c.lasting_operations_decide.ensures.always t) c.find_lasting.result c.find_lasting.ensures.found (sym c.is_some.ensures ∙ c.if-is_some.true))
