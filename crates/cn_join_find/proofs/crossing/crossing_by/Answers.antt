use Rattle.std.proofs.Common.{◌-◌, length}
use Rattle.cn_stocks.proofs.LastingLemmas.Closing.{not_some}
use Rattle.cn_join_find.proofs.CrossLemmas.{meets_within, none_meets}
use Rattle.cn_join_find.proofs.WordLemmas.{known_at}
use Rattle.cn_join_find.proofs.crossing.crossing_by.Goals as goal

pub join_of-requires-clause-meets : goal.join_of-requires-clause-meets
join_of-requires-clause-meets c whole at =
    (c.requires.short whole at, meets_within c.args.views.now c.args.start c.args.set whole c.whole_pairs-pairs.result c.in-Some.found (c.whole_pairs-pairs.ensures whole at) c.in-Some.ensures.some)

pub returns-in_default : goal.returns-in_default
returns-in_default c whole at =
    let v = c.args.views.now in
    let t = v.cells.table.now in
    let list = v.cells.stocks.now in
    none_meets t c.tables_are_valid.ensures.table c.args.start whole c.requires.start (known_at (length t.operations) list (length list - 1) whole c.requires.views.cells.over.stocks at)
    v.asked c.whole_pairs-pairs.result (c.whole_pairs-pairs.ensures whole at) c.args.set (c.find_meeting.ensures.none (not_some c.find_meeting.result c.in_default.not-Some))
