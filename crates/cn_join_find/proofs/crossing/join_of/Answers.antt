use Rattle.std.proofs.Common.{◌-◌, arith, length, refl}
use Rattle.cn_join_find.proofs.CrossLemmas.{crosses}
use Rattle.cn_join_find.proofs.StepLemmas.{stands}
use Rattle.cn_join_find.proofs.WordLemmas.{known_at}
use Rattle.cn_join_find.proofs.crossing.join_of.Goals as goal

pub first_word-requires-clause-first : goal.first_word-requires-clause-first
first_word-requires-clause-first c =
    let list = c.args.views.now.cells.stocks.now in
    let here = stands list (length list - 1) (omega (arith, c.requires.some)) in
    (c.requires.meets here.0 here.1).1.first_known

pub first_word-requires-clause-response : goal.first_word-requires-clause-response
first_word-requires-clause-response c =
    let list = c.args.views.now.cells.stocks.now in
    let here = stands list (length list - 1) (omega (arith, c.requires.some)) in
    (c.requires.meets here.0 here.1).1.response_known

pub first_word-requires-clause-state : goal.first_word-requires-clause-state
first_word-requires-clause-state c =
    let list = c.args.views.now.cells.stocks.now in
    let here = stands list (length list - 1) (omega (arith, c.requires.some)) in
    (c.requires.meets here.0 here.1).1.state_known

pub first_word-requires-clause-shows : goal.first_word-requires-clause-shows
first_word-requires-clause-shows c whole at = let m = c.requires.meets whole at in (m.0, m.1.first_shows)

pub first_word-requires-2-clause-first : goal.first_word-requires-2-clause-first
first_word-requires-2-clause-first c =
    let list = c.args.views.now.cells.stocks.now in
    let here = stands list (length list - 1) (omega (arith, c.requires.some)) in
    (c.requires.meets here.0 here.1).1.second_known

pub first_word-requires-2-clause-response : goal.first_word-requires-2-clause-response
first_word-requires-2-clause-response c =
    let list = c.args.views.now.cells.stocks.now in
    let here = stands list (length list - 1) (omega (arith, c.requires.some)) in
    (c.requires.meets here.0 here.1).1.response_known

pub first_word-requires-2-clause-state : goal.first_word-requires-2-clause-state
first_word-requires-2-clause-state c =
    let list = c.args.views.now.cells.stocks.now in
    let here = stands list (length list - 1) (omega (arith, c.requires.some)) in
    (c.requires.meets here.0 here.1).1.state_known

pub first_word-requires-2-clause-shows : goal.first_word-requires-2-clause-shows
first_word-requires-2-clause-shows c whole at = let m = c.requires.meets whole at in (m.0, m.1.second_shows)

pub returns : goal.returns
returns c whole at =
    let v = c.args.views.now in
    let t = v.cells.table.now in
    let found = c.args.found in
    let m = (c.requires.meets whole at).1 in
    let list = v.cells.stocks.now in
    crosses t c.args.start c.args.set whole found.first found.second v.asked found.pair.response found.pair.state _ c.requires.start
    (known_at (length t.operations) list (length list - 1) whole c.requires.views.cells.over.stocks at) m.inside m.outside refl (c.in_ok-first.ensures whole at) (c.in_ok-second.ensures whole at)
