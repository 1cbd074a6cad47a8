use Rattle.std.proofs.Common.{ℕ, ◌≡◌, ◌↔◌, ◌∙◌, [], ap, get_or, refl, subst, sym, true≢false}
use Rattle.cn_table.specs.TypeTable.{transition}
use Rattle.cn_stocks.specs.Pairs.{Has, set_at}
use Rattle.cn_stocks.specs.Reach.{ShowsWithin}
use Rattle.cn_stocks.proofs.StockLemmas.{read_stock}
use Rattle.cn_stocks.proofs.Steps.{shows_part_is, shows_part_none}
use Rattle.cn_join_find.proofs.StepLemmas.{less_at, none_at, shown_at}
use Rattle.cn_join_find.proofs.steps.shown_step.Goals as goal

pub returns-in_default-clause-none : goal.returns-in_default-clause-none
returns-in_default-clause-none c e items at =
    let v = c.args.views.now in
    let here = read_stock v.cells.stocks.now c.args.place c.index-stocks-place.result c.requires.place c.index-stocks-place.is in
    shows_part_none v.cells.table.now c.args.start items c.args.operation v.asked c.args.pair.response c.args.pair.state
    (none_at v.cells c.requires.views.cells c.args.place c.args.operation c.index-stocks-place.result items here at c.in_default.not-Some)

pub bounds-shown-rest : goal.bounds-shown-rest
bounds-shown-rest c =
    let v = c.args.views.now in
    let here = read_stock v.cells.stocks.now c.args.place c.index-stocks-place.result c.requires.place c.index-stocks-place.is in
    let l = less_at v.cells c.requires.views.cells c.args.place c.args.operation c.in-Some.rest c.index-stocks-place.result here c.in-Some.is in
    (shown_at v c.requires.views c.in-Some.rest l.rest l.at).0

pub returns-then-not-has_pair-clause-none : goal.returns-then-not-has_pair-clause-none
returns-then-not-has_pair-clause-none c e items at h =
    let v = c.args.views.now in
    let t = v.cells.table.now in
    let r = c.args.pair.response in
    let q = c.args.pair.state in
    let here = read_stock v.cells.stocks.now c.args.place c.index-stocks-place.result c.requires.place c.index-stocks-place.is in
    let l = less_at v.cells c.requires.views.cells c.args.place c.args.operation c.in-Some.rest c.index-stocks-place.result here c.in-Some.is in
    let next : c.apply.result.1.0 ≡ (transition t c.args.operation c.args.start).1 = ap (λ (p : ℕ × ℕ). p.1) c.apply.ensures.value in
    let shown = (shown_at v c.requires.views c.in-Some.rest l.rest l.at).1 c.apply.result.1.0 c.apply.ensures.next r q in
    let has : Type 0 = Has (set_at (get_or v.shown.now c.in-Some.rest (record { pairs = [] })).pairs c.apply.result.1.0) r q in
    let part = shows_part_is t c.args.start items c.args.operation l.rest (l.less items at) v.asked r q has (subst (λ (n : ℕ). has ↔ ShowsWithin t n l.rest v.asked r q) next shown) in
    true≢false (sym (c.has_pair.ensures.1 (part.1 h)) ∙ c.if-not-has_pair.true)

pub returns-clause-some : goal.returns-clause-some
returns-clause-some c =
    let v = c.args.views.now in
    let here = read_stock v.cells.stocks.now c.args.place c.index-stocks-place.result c.requires.place c.index-stocks-place.is in
    let l = less_at v.cells c.requires.views.cells c.args.place c.args.operation c.in-Some.rest c.index-stocks-place.result here c.in-Some.is in
    record {
      is_step = record {
        is_by = refl;
        earlier = l.earlier;
        state = ap (λ (p : ℕ × ℕ). p.1) c.apply.ensures.value;
        rest = l.rest;
        at = l.at;
        less = l.less;
      };
      shows = ((shown_at v c.requires.views c.in-Some.rest l.rest l.at).1 c.apply.result.1.0 c.apply.ensures.next c.args.pair.response c.args.pair.state).0 (c.has_pair.ensures.0 c.if-not-has_pair.false);
    }
