use Rattle.std.proofs.Common.{ℕ, ◌∙◌, inl, inr, arith, subst, sym, true≢false}
use Rattle.std.specs.Prelude.{IsBitSet}
use Rattle.cn_outcomes.proofs.Packing.{below_or_last}
use Rattle.cn_stocks.specs.Pairs.{set_at}
use Rattle.cn_stocks.proofs.LastingLemmas.Closing.{not_some}
use Rattle.cn_join_find.specs.Crossing.{NoCommonPair}
use Rattle.cn_join_find.proofs.meeting.meeting_of.Goals as goal

pub loop-second-preserved-then-contains : goal.loop-second-preserved-then-contains
loop-second-preserved-then-contains c g l out = elim (below_or_last g c.loop-second.second l) [
  | inl u ↦ c.loop-second.invariant g u out
  | inr e ↦ absurd (out (subst (λ (x : ℕ). IsBitSet c.args.set x) (sym e) (c.contains.ensures.0 c.if-contains.true)))
]

pub loop-second-preserved : goal.loop-second-preserved
loop-second-preserved c g l out = elim (below_or_last g c.loop-second.second l) [
  | inl u ↦ c.loop-second.invariant g u out
  | inr e ↦ subst (λ (x : ℕ). NoCommonPair c.args.table.now (set_at c.args.pairs.now c.args.first) (set_at c.args.pairs.now x)) (sym e)
      (c.common_pair-found.ensures.none (not_some c.common_pair-found.result c.in_default.not-Some))
]

pub returns-in-Some-clause-some : goal.returns-in-Some-clause-some
returns-in-Some-clause-some c = record {
  first_known = c.requires.known;
  second_known = omega (arith, c.loop-second-test.true, c.operations-second-end.ensures.number);
  response_known = c.in-Some.ensures.response;
  state_known = c.in-Some.ensures.state;
  inside = c.requires.inside;
  outside = λ b. true≢false (sym (c.contains.ensures.1 b) ∙ c.if-contains.false);
  first_has = c.in-Some.ensures.first;
  second_has = c.in-Some.ensures.second;
}

pub returns-clause-none : goal.returns-clause-none
returns-clause-none c e g l out = c.loop-second.invariant g (omega (arith, l, c.loop-second-test.false, c.operations-second-end.ensures.number)) out
