use Rattle.std.proofs.Common.{ℕ, List, inl, inr, arith, length}
use Rattle.std.proofs.lemmas.Result.{IfOk-weaker}
use Rattle.cn_stocks.proofs.LastingLemmas.Closing.{not_some}
use Rattle.cn_join_find.specs.Steps.{LeadsToShow, StandsAt}
use Rattle.cn_join_find.proofs.StepLemmas.{ends_behind, place_known, show_by_asked, show_by_step, shows_behind, stands}
use Rattle.cn_join_find.proofs.WordLemmas.{known_at, removal_at, some_shown}
use Rattle.cn_join_find.proofs.words.+push_shown.Goals as goal

pub push_way-requires-clause-place : goal.push_way-requires-clause-place
push_way-requires-clause-place m c = place_known c.args.views.now.cells c.args.place c.args.views.now.asked c.args.start c.in-Some.step c.in-Some.ensures.some.is_step

pub push_way-requires-clause-ends : goal.push_way-requires-clause-ends
push_way-requires-clause-ends m c = ends_behind c.args.views.now.cells c.args.place c.args.views.now.asked c.args.start c.in-Some.step c.args.pair.state c.in-Some.ensures.some

pub returns-in-Some : goal.returns-in-Some
returns-in-Some m c =
    show_by_asked c.args.views.now.cells c.args.place c.args.views.now.asked c.args.start c.in-Some.step c.args.pair.response c.args.pair.state c.in-Some.ensures.answer c.in-Some.ensures.some
    c.args.word.now.items c.push.new.self.items c.push_way.new.word.items c.len-at.result (omega (arith, c.len-at.ensures, c.args.word.now.ok.0)) c.in_ok-push.ensures.items c.in_ok-push_way.ensures

pub unreachable-requires : goal.unreachable-requires
unreachable-requires m c =
    let v = c.args.views.now in
    let cells = v.cells in
    let t = cells.table.now in
    let k = length t.operations in
    let here = stands cells.stocks.now c.args.place c.requires.place in
    let stocks = c.requires.views.cells.over.stocks in
    elim (some_shown t c.args.start here.0 (removal_at k cells.stocks.now c.args.place here.0 stocks here.1) k (known_at k cells.stocks.now c.args.place here.0 stocks here.1)
    v.asked c.args.pair.response c.args.pair.state (c.requires.shows here.0 here.1)) [
      | inl once ↦ c.asked_step.ensures.none (not_some c.asked_step.result c.in_default.not-Some) here.0 here.1 once
      | inr x ↦ c.some_shown_step.ensures.none (not_some c.some_shown_step.result c.in_default-some_shown_step.not-Some) here.0 here.1 x.0 x.1 x.2
    ]

pub push_shown-requires : goal.push_shown-requires
push_shown-requires m c =
    let v = c.args.views.now in
    let step = c.in-Some-some_shown_step.step in
    let s = c.in-Some-some_shown_step.ensures.some in (
      omega (arith, s.2.is_step.earlier),
      (
        c.requires.views,
        (
          place_known v.cells c.args.place s.0 c.args.start step s.2.is_step,
          (c.in-Some-some_shown_step.ensures.known, (c.requires.response, (c.requires.state, shows_behind v c.args.place s.0 c.args.start c.args.pair.response c.args.pair.state step s.2))),
        ),
      ),
    )

pub returns : goal.returns
returns m c =
    let v = c.args.views.now in
    let step = c.in-Some-some_shown_step.step in
    let s = c.in-Some-some_shown_step.ensures.some in
    let r = c.args.pair.response in
    let q = c.args.pair.state in
    let old = c.args.word.now.items in
    let mid = c.push-2.new.self.items in
    let new = c.push_shown.new.word.items in
    IfOk-weaker c.push_shown.result
    (λ at. (items : List ℕ) → StandsAt v.cells step.place items → LeadsToShow v.cells.table.now step.state items v.asked r q mid new at)
    (λ at. (items : List ℕ) → StandsAt v.cells c.args.place items → LeadsToShow v.cells.table.now c.args.start items v.asked r q old new at)
    (λ at h. show_by_step v c.args.place s.0 c.args.start r q step s.2 old mid new at c.in_ok-push-2.ensures.items h) c.push_shown.ensures
