use Rattle.cn_unread_cert.proofs.Told.{some_visible}
use Rattle.cn_unread_cert.proofs.maker.told_for.Goals as goal

pub unreachable-requires : goal.unreachable-requires
unreachable-requires c =
    let t = c.args.table.now in
    let closed = c.tables_are_closed.ensures t c.tables_are_valid.ensures.table in
    let none = c.in_default.ensures in
    some_visible c.live_choices_decide.ensures.refuted t c.args.n
    (λ d listed. ((c.live_list.ensures.listed t c.args.n d).0 listed).1) closed c.requires.telling
    (c.requires.reads c.if-n-lt2.false) none.none
