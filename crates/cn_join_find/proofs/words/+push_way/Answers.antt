use Rattle.std.proofs.Common.{ℕ, List, arith, length}
use Rattle.std.proofs.lemmas.Result.{IfOk-weaker}
use Rattle.cn_stocks.proofs.LastingLemmas.Closing.{not_some}
use Rattle.cn_join_find.specs.Steps.{LeadsTo, StandsAt}
use Rattle.cn_join_find.proofs.StepLemmas.{ends_behind, place_known, stands, way_by_step}
use Rattle.cn_join_find.proofs.WordLemmas.{known_at, removal_at, some_step, way_none}
use Rattle.cn_join_find.proofs.words.+push_way.Goals as goal

pub returns-then-start-goal : goal.returns-then-start-goal
returns-then-start-goal m c items at = way_none c.args.cells.now.table.now c.args.start items c.args.goal c.args.word.now.items c.if-start-goal.true

pub unreachable-requires : goal.unreachable-requires
unreachable-requires m c =
    let cells = c.args.cells.now in
    let t = cells.table.now in
    let k = length t.operations in
    let here = stands cells.stocks.now c.args.place c.requires.place in
    let stocks = c.requires.cells.over.stocks in
    let x = some_step t c.args.start here.0 (removal_at k cells.stocks.now c.args.place here.0 stocks here.1) k (known_at k cells.stocks.now c.args.place here.0 stocks here.1) c.args.goal
    (λ e. absurd (omega (arith, e, c.if-start-goal.false))) (c.requires.ends here.0 here.1) in
    c.some_ends_step.ensures.none (not_some c.some_ends_step.result c.in_default.not-Some) here.0 here.1 x.0 x.1 x.2

pub push_way-requires : goal.push_way-requires
push_way-requires m c =
    let cells = c.args.cells.now in
    let step = c.in-Some.step in
    let s = c.in-Some.ensures.some in (
      omega (arith, s.2.is_step.earlier),
      (
        c.requires.cells,
        (place_known cells c.args.place s.0 c.args.start step s.2.is_step, (c.in-Some.ensures.known, (c.requires.goal, ends_behind cells c.args.place s.0 c.args.start step c.args.goal s.2))),
      ),
    )

pub returns : goal.returns
returns m c =
    let cells = c.args.cells.now in
    let step = c.in-Some.step in
    let s = c.in-Some.ensures.some in
    let old = c.args.word.now.items in
    let mid = c.push.new.self.items in
    let new = c.push_way.new.word.items in
    IfOk-weaker c.push_way.result
    (λ v. (items : List ℕ) → StandsAt cells step.place items → LeadsTo cells.table.now step.state items c.args.goal mid new)
    (λ v. (items : List ℕ) → StandsAt cells c.args.place items → LeadsTo cells.table.now c.args.start items c.args.goal old new)
    (λ v h. way_by_step cells c.args.place s.0 c.args.start step c.args.goal s.2 old mid new c.in_ok-push.ensures.items h) c.push_way.ensures
