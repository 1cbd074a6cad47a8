use Rattle.cn_search.proofs.nexts.number_by.Goals as goal

pub returns : goal.returns
returns g c =
    let t = c.args.table.now in
    c.finite.ensures t _ (c.tables_are_closed.ensures t c.tables_are_valid.ensures.table) c.requires.none c.requires.searched.some c.requires.searched.all c.in_ok-number.ensures
