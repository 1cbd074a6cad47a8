use Rattle.std.proofs.lemmas.Result.{IfOk-weaker}
use Rattle.cn_search.proofs.NumberLemmas.{same_without_copies}
use Rattle.cn_search.proofs.up_to.with_same_numbers.Goals as goal

pub returns : goal.returns
returns c =
    let t = c.args.table.now in
    IfOk-weaker c.without_copies.result _ _
    (λ u h. same_without_copies t u (c.copies_tell_nothing.ensures.without t u (c.tables_are_closed.ensures t c.tables_are_valid.ensures.table) h) h)
    c.without_copies.ensures
