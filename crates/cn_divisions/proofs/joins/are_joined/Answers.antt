use Rattle.std.proofs.Common.{ℕ, ◌≤◌, ◌∙◌, inl, inr, arith, refl, subst, sym, true≢false}
use Rattle.cn_outcomes.proofs.Packing.{below_or_last}
use Rattle.cn_stocks.specs.Words.{Shows, times}
use Rattle.cn_stocks.proofs.Steps.{shows_asked}
use Rattle.cn_divisions.specs.Sights.{IsOf}
use Rattle.cn_divisions.proofs.Known.{shows_known}
use Rattle.cn_divisions.proofs.joins.are_joined.Goals as goal

pub loop-asked-preserved-then-not-has : goal.loop-asked-preserved-then-not-has
loop-asked-preserved-then-not-has c o r q l x y =
    let s = c.args.setting.now in
    let items = s.stock.now.operations.items in
    elim (below_or_last o c.loop-asked.asked l) [
      | inl u ↦ c.loop-asked.invariant o r q u x y
      | inr e ↦ true≢false (sym (c.has.ensures.1 (subst (λ (k : ℕ). 1 ≤ times k items) e (shows_asked s.table.now c.args.start items c.args.g o r y.0 y.1))) ∙ c.if-not-has.true)
    ]

pub loop-asked-preserved : goal.loop-asked-preserved
loop-asked-preserved c o r q l x y =
    let s = c.args.setting.now in
    let t = s.table.now in
    let items = s.stock.now.operations.items in
    elim (below_or_last o c.loop-asked.asked l) [
      | inl u ↦ c.loop-asked.invariant o r q u x y
      | inr e ↦ (
          let one = (c.shown_by-shown.ensures r x.0).1 (subst (λ (k : ℕ). Shows t c.args.start items c.args.f k r x.0) e x.1) in
          let other = (c.shown_by.ensures r y.0).1 (subst (λ (k : ℕ). Shows t c.args.start items c.args.g k r y.0) e y.1) in
          let a : IsOf t c.shown_by-shown.result =
          λ n k h. shows_known t c.states-states.ensures.table c.args.start items c.args.f c.loop-asked.asked n k c.requires.start ((c.shown_by-shown.ensures n k).0 h) in
          let b : IsOf t c.shown_by.result =
          λ n k h. shows_known t c.states-states.ensures.table c.args.start items c.args.g c.loop-asked.asked n k c.requires.start ((c.shown_by.ensures n k).0 h) in
          true≢false (sym ((c.confuses.ensures t c.requires.look a b).1 (r, x.0, y.0, one, other, x.2 ∙ sym y.2)) ∙ c.if-confuses.false)
          )
    ]

pub returns-then-confuses : goal.returns-then-confuses
returns-then-confuses c = (
  λ h.
      let s = c.args.setting.now in
      let t = s.table.now in
      let items = s.stock.now.operations.items in
      let of_f : IsOf t c.shown_by-shown.result =
      λ n k h. shows_known t c.states-states.ensures.table c.args.start items c.args.f c.loop-asked.asked n k c.requires.start ((c.shown_by-shown.ensures n k).0 h) in
      let of_g : IsOf t c.shown_by.result =
      λ n k h. shows_known t c.states-states.ensures.table c.args.start items c.args.g c.loop-asked.asked n k c.requires.start ((c.shown_by.ensures n k).0 h) in
      let a = (c.confuses.ensures t c.requires.look of_f of_g).0 c.if-confuses.true in
      record {
        to = c.loop-asked.asked;
        response = a.0;
        saw = _;
        told_f = (a.1, (c.shown_by-shown.ensures a.0 a.1).0 a.3, refl);
        told_g = (a.2, (c.shown_by.ensures a.0 a.2).0 a.4, sym a.5);
      },
  λ j. refl,
)

pub returns : goal.returns
returns c = (
  λ h. absurd (true≢false (sym h)),
  λ j.
      let s = c.args.setting.now in
      let known = c.requires.setting.stock_is.known j.to (shows_asked s.table.now c.args.start s.stock.now.operations.items c.args.g j.to j.response j.told_g.0 j.told_g.1) in
      absurd (c.loop-asked.invariant j.to j.response j.saw (omega (arith, known, c.loop-asked-test.false, c.operations-asked-end.ensures.number)) j.told_f j.told_g),
)

pub confuses-requires : goal.confuses-requires
confuses-requires c r q h =
    let s = c.args.setting.now in
    let k = shows_known s.table.now c.states-states.ensures.table c.args.start s.stock.now.operations.items c.args.f c.loop-asked.asked r q c.requires.start ((c.shown_by-shown.ensures r q).0 h) in
    omega (arith, k.0, c.responses-responses.ensures.number, c.responses-responses.ensures.range.1)
