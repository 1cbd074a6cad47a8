use Rattle.std.proofs.Common.{ℕ, ◌∙◌, inl, inr, arith, subst, sym, true≢false}
use Rattle.cn_outcomes.proofs.Packing.{below_or_last}
use Rattle.cn_stocks.specs.Pairs.{Has}
use Rattle.cn_stocks.proofs.LastingLemmas.Closing.{not_some}
use Rattle.cn_join_find.proofs.meeting.common_pair.Goals as goal

pub returns-then-not-meets-clause-none : goal.returns-then-not-meets-clause-none
returns-then-not-meets-clause-none c e r q l u here there = true≢false (sym (c.meets.ensures.1 (r, (q, here, there))) ∙ c.if-not-meets.true)

pub loop-response-preserved : goal.loop-response-preserved
loop-response-preserved c r q l u here there = elim (below_or_last r c.loop-response.response l) [
  | inl below ↦ c.loop-response.invariant r q below u here there
  | inr e ↦ c.common_state.ensures.none (not_some c.common_state.result c.in_default.not-Some) q u
      (subst (λ (x : ℕ). Has c.args.a.now x q) e here) (subst (λ (x : ℕ). Has c.args.b.now x q) e there)
]

pub returns-clause-none : goal.returns-clause-none
returns-clause-none c e r q l u here there = c.loop-response.invariant r q (omega (arith, l, c.loop-response-test.false, c.responses-response-end.ensures.number)) u here there
