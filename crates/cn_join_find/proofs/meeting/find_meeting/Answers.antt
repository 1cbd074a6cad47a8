use Rattle.std.proofs.Common.{ℕ, ◌∙◌, inl, inr, arith, subst, sym, true≢false}
use Rattle.std.specs.Prelude.{IsBitSet}
use Rattle.cn_outcomes.proofs.Packing.{below_or_last}
use Rattle.cn_stocks.specs.Pairs.{set_at}
use Rattle.cn_stocks.proofs.LastingLemmas.Closing.{not_some}
use Rattle.cn_join_find.specs.Crossing.{NoCommonPair}
use Rattle.cn_join_find.proofs.meeting.find_meeting.Goals as goal

pub loop-first-preserved-then-not-contains : goal.loop-first-preserved-then-not-contains
loop-first-preserved-then-not-contains c f g l u inside out = elim (below_or_last f c.loop-first.first l) [
  | inl below ↦ c.loop-first.invariant f g below u inside out
  | inr e ↦ absurd (true≢false (sym (c.contains.ensures.1 (subst (λ (x : ℕ). IsBitSet c.args.set x) e inside)) ∙ c.if-not-contains.true))
]

pub loop-first-preserved : goal.loop-first-preserved
loop-first-preserved c f g l u inside out = elim (below_or_last f c.loop-first.first l) [
  | inl below ↦ c.loop-first.invariant f g below u inside out
  | inr e ↦ subst (λ (x : ℕ). NoCommonPair c.args.table.now (set_at c.args.pairs.now x) (set_at c.args.pairs.now g)) (sym e)
      (c.meeting_of.ensures.none (not_some c.meeting_of.result c.in_default.not-Some) g u out)
]

pub returns-clause-none : goal.returns-clause-none
returns-clause-none c e f g l u inside out = c.loop-first.invariant f g (omega (arith, l, c.loop-first-test.false, c.operations-first-end.ensures.number)) u inside out
