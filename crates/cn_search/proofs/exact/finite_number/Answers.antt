use Rattle.cn_search.proofs.exact.finite_number.Goals as goal

pub returns : goal.returns
returns g c =
    let t = c.args.table.now in
    c.finite.ensures t _ (c.tables_are_closed.ensures t c.tables_are_valid.ensures.table) c.requires c.most_operations-most.ensures.range.0 c.most_operations-most.ensures.all c.in_ok-found.ensures
