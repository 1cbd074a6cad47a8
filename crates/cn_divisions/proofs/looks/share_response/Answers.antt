use Rattle.std.proofs.Common.{◌∙◌, ℕ, arith, inl, inr, subst, sym, true≢false}
use Rattle.cn_outcomes.proofs.Packing.{below_or_last}
use Rattle.cn_stocks.specs.Pairs.{Has}
use Rattle.cn_divisions.proofs.looks.share_response.Goals as goal
use Rattle.cn_divisions.proofs.looks.share_response.Goals.{else-has_some-via-then-has_some+else-has_some-2, else-has_some-via-else-has_some}

pub loop-response-preserved : goal.loop-response-preserved
loop-response-preserved c r p q l x y u v = elim (below_or_last r c.loop-response.response l) [
  | inl m ↦ c.loop-response.invariant r p q m x y u v
  | inr e ↦ (
      let one = subst (λ (k : ℕ). Has c.args.a.now k p) e x in
      let other = subst (λ (k : ℕ). Has c.args.b.now k q) e y in
      elim c.else-has_some.branch [
        | else-has_some-via-then-has_some+else-has_some-2 w ↦ true≢false (sym (w.has_some-then-has_some.ensures.1 (q, other, v)) ∙ w.if-has_some-2.false)
        | else-has_some-via-else-has_some w ↦ true≢false (sym (c.has_some.ensures.1 (p, one, u)) ∙ w.if-has_some.false)
      ]
      )
]

pub returns : goal.returns
returns c = (
  λ h. absurd (true≢false (sym h)),
  λ h. absurd (c.loop-response.invariant h.0 h.1 h.2 (omega (arith, c.requires h.0 h.1 h.3, c.loop-response-test.false)) h.3 h.4 h.5 h.6),
)
