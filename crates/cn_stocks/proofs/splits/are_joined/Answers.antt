use Rattle.std.proofs.Common.{ℕ, ◌≤◌, ◌∙◌, inl, inr, arith, subst, sym, true≢false}
use Rattle.cn_outcomes.proofs.Packing.{below_or_last}
use Rattle.cn_stocks.specs.Words.{Shows, times}
use Rattle.cn_stocks.proofs.Steps.{shows_asked}
use Rattle.cn_stocks.proofs.splits.are_joined.Goals as goal

pub loop-asked-preserved-then-not-has : goal.loop-asked-preserved-then-not-has
loop-asked-preserved-then-not-has c o r q l x y =
    let s = c.args.setting.now in
    let items = s.stock.now.operations.items in
    elim (below_or_last o c.loop-asked.asked l) [
      | inl u ↦ c.loop-asked.invariant o r q u x y
      | inr e ↦ true≢false (sym (c.has.ensures.1 (subst (λ (k : ℕ). 1 ≤ times k items) e (shows_asked s.table.now c.args.start items c.args.g o r q y))) ∙ c.if-not-has.true)
    ]

pub loop-asked-preserved : goal.loop-asked-preserved
loop-asked-preserved c o r q l x y =
    let s = c.args.setting.now in
    let t = s.table.now in
    let items = s.stock.now.operations.items in
    elim (below_or_last o c.loop-asked.asked l) [
      | inl u ↦ c.loop-asked.invariant o r q u x y
      | inr e ↦ (
          let one = (c.shown_by-shown.ensures r q).1 (subst (λ (k : ℕ). Shows t c.args.start items c.args.f k r q) e x) in
          let other = (c.shown_by.ensures r q).1 (subst (λ (k : ℕ). Shows t c.args.start items c.args.g k r q) e y) in
          true≢false (sym (c.meets.ensures.1 (r, (q, one, other))) ∙ c.if-meets.false)
          )
    ]

pub returns : goal.returns
returns c = (
  λ h. absurd (true≢false (sym h)),
  λ j.
      let s = c.args.setting.now in
      let known = c.requires.setting.stock_is.known j.0 (shows_asked s.table.now c.args.start s.stock.now.operations.items c.args.g j.0 j.1 j.2 j.4) in
      absurd (c.loop-asked.invariant j.0 j.1 j.2 (omega (arith, known, c.loop-asked-test.false, c.operations-asked-end.ensures.number)) j.3 j.4),
)
