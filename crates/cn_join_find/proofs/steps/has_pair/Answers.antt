use Rattle.std.proofs.Common.{ℕ, inl, inr, refl, subst}
use Rattle.cn_outcomes.proofs.LastProcess.{zero_has_none}
use Rattle.cn_stocks.specs.Pairs.{Has}
use Rattle.cn_join_find.proofs.steps.has_pair.Goals as goal

pub returns : goal.returns
returns c = (
  λ h. (
      let q = c.has_some.ensures.0 h in
      elim ((c.with-only.ensures q.0).0 q.2) [ inl z ↦ absurd (zero_has_none q.0 z) | inr e ↦ subst (λ (x : ℕ). Has c.args.set.now c.args.response x) e q.1 ]),
  λ h. c.has_some.ensures.1 (c.args.state, h, (c.with-only.ensures c.args.state).1 (inr refl)),
)
