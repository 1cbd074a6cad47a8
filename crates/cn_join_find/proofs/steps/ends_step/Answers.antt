use Rattle.std.proofs.Common.{ℕ, ◌≡◌, ◌↔◌, ◌∙◌, ap, get_or, [], refl, subst, sym, true≢false}
use Rattle.std.specs.Prelude.{IsBitSet}
use Rattle.cn_table.specs.TypeTable.{transition}
use Rattle.cn_stocks.specs.Reach.{EndsWithin}
use Rattle.cn_stocks.proofs.StockLemmas.{read_stock}
use Rattle.cn_stocks.proofs.Steps.{ends_part_is, ends_part_none}
use Rattle.cn_join_find.proofs.StepLemmas.{less_at, none_at}
use Rattle.cn_join_find.proofs.steps.ends_step.Goals as goal

pub returns-in_default-clause-none : goal.returns-in_default-clause-none
returns-in_default-clause-none c e items at =
    let cells = c.args.cells.now in
    let here = read_stock cells.stocks.now c.args.place c.index-stocks-place.result c.requires.place c.index-stocks-place.is in
    ends_part_none cells.table.now c.args.start items c.args.operation c.args.goal (none_at cells c.requires.cells c.args.place c.args.operation c.index-stocks-place.result items here at c.in_default.not-Some)

pub bounds-ends-rest : goal.bounds-ends-rest
bounds-ends-rest c =
    let cells = c.args.cells.now in
    let here = read_stock cells.stocks.now c.args.place c.index-stocks-place.result c.requires.place c.index-stocks-place.is in
    (less_at cells c.requires.cells c.args.place c.args.operation c.in-Some.rest c.index-stocks-place.result here c.in-Some.is).inside

pub returns-then-not-contains-clause-none : goal.returns-then-not-contains-clause-none
returns-then-not-contains-clause-none c e items at h =
    let cells = c.args.cells.now in
    let t = cells.table.now in
    let here = read_stock cells.stocks.now c.args.place c.index-stocks-place.result c.requires.place c.index-stocks-place.is in
    let l = less_at cells c.requires.cells c.args.place c.args.operation c.in-Some.rest c.index-stocks-place.result here c.in-Some.is in
    let next : c.apply.result.1.0 ≡ (transition t c.args.operation c.args.start).1 = ap (λ (p : ℕ × ℕ). p.1) c.apply.ensures.value in
    let bit : Type 0 = IsBitSet (get_or (get_or cells.ends.now c.in-Some.rest (record { states = [] })).states c.apply.result.1.0 0) c.args.goal in
    let part = ends_part_is t c.args.start items c.args.operation l.rest (l.less items at) c.args.goal bit (subst (λ (n : ℕ). bit ↔ EndsWithin t n l.rest c.args.goal) next (l.ends c.apply.result.1.0 c.apply.ensures.next c.args.goal)) in
    true≢false (sym (c.contains.ensures.1 (part.1 h)) ∙ c.if-not-contains.true)

pub returns-clause-some : goal.returns-clause-some
returns-clause-some c =
    let cells = c.args.cells.now in
    let here = read_stock cells.stocks.now c.args.place c.index-stocks-place.result c.requires.place c.index-stocks-place.is in
    let l = less_at cells c.requires.cells c.args.place c.args.operation c.in-Some.rest c.index-stocks-place.result here c.in-Some.is in
    record {
      is_step = record {
        is_by = refl;
        earlier = l.earlier;
        state = ap (λ (p : ℕ × ℕ). p.1) c.apply.ensures.value;
        rest = l.rest;
        at = l.at;
        less = l.less;
      };
      ends = (l.ends c.apply.result.1.0 c.apply.ensures.next c.args.goal).0 (c.contains.ensures.0 c.if-not-contains.false);
    }
