use Rattle.std.proofs.Common.{ℕ, ◌∙◌, inl, inr, arith, subst, sym, true≢false}
use Rattle.std.specs.Prelude.{IsBitSet}
use Rattle.cn_outcomes.proofs.Packing.{below_or_last}
use Rattle.cn_stocks.specs.Splits.{AreJoined}
use Rattle.cn_stocks.proofs.SplitLemmas.{joined_meet}
use Rattle.cn_stocks.proofs.Steps.{shows_first}
use Rattle.cn_stocks.proofs.splits.touches.Goals as goal

pub loop-first-preserved-then-not-contains : goal.loop-first-preserved-then-not-contains
loop-first-preserved-then-not-contains c f l b j = elim (below_or_last f c.loop-first.first l) [
  | inl u ↦ c.loop-first.invariant f u b j
  | inr e ↦ true≢false (sym (c.contains.ensures.1 (subst (λ (k : ℕ). IsBitSet c.args.reached k) e b)) ∙ c.if-not-contains.true)
]

pub loop-first-preserved-then-not-meet : goal.loop-first-preserved-then-not-meet
loop-first-preserved-then-not-meet c f l b j = elim (below_or_last f c.loop-first.first l) [
  | inl u ↦ c.loop-first.invariant f u b j
  | inr e ↦ (
      let s = c.args.setting.now in
      let items = s.stock.now.operations.items in
      let common = joined_meet s.table.now c.args.start items c.args.left.now c.requires.left c.loop-first.first c.args.operation
      (subst (λ (k : ℕ). AreJoined s.table.now c.args.start items k c.args.operation) e j) in
      true≢false (sym (c.meet.ensures.1 common) ∙ c.if-not-meet.true)
      )
]

pub loop-first-preserved : goal.loop-first-preserved
loop-first-preserved c f l b j = elim (below_or_last f c.loop-first.first l) [
  | inl u ↦ c.loop-first.invariant f u b j
  | inr e ↦ (
      let s = c.args.setting.now in
      let here = subst (λ (k : ℕ). AreJoined s.table.now c.args.start s.stock.now.operations.items k c.args.operation) e j in
      true≢false (sym (c.are_joined.ensures.1 here) ∙ c.if-are_joined.false)
      )
]

pub returns : goal.returns
returns c = (
  λ h. absurd (true≢false (sym h)),
  λ j.
      let s = c.args.setting.now in
      let known = c.requires.setting.stock_is.known j.0 (shows_first s.table.now c.args.start s.stock.now.operations.items j.0 j.2.0 j.2.1 j.2.2 j.2.3) in
      absurd (c.loop-first.invariant j.0 (omega (arith, known, c.loop-first-test.false, c.operations-first-end.ensures.number)) j.1 j.2),
)
