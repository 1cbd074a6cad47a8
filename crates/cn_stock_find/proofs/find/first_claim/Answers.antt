use Rattle.cn_stock_find.proofs.find.first_claim.Goals as goal

pub unreachable-requires : goal.unreachable-requires
unreachable-requires g c =
    let none = rw c.in-None.is at c.in_ok-found.ensures in
    c.live_choices_decide.ensures.refuted c.args.table.now c.args.n none c.requires.discerning
