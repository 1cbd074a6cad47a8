use Rattle.std.proofs.Common.{ℕ, ◌≡◌, ◌∙◌, ap, arith, inl, inr, sym}
use Rattle.cn_table.specs.TypeTable.{transition}
use Rattle.cn_divisions.proofs.looks.with_answer.Goals as goal

pub returns-then-got-response : goal.returns-then-got-response
returns-then-got-response c q =
    let got : c.apply.result.0.0 ≡ (transition c.args.table.now c.args.operation.0 c.args.state).0 = ap (λ (p : ℕ × ℕ). p.0) c.apply.ensures.value in (
      λ h. elim ((c.with-larger.ensures q).0 h) [ inl b ↦ inl b | inr e ↦ inr (e, sym got ∙ c.if-got-response.true) ],
      λ h. (c.with-larger.ensures q).1 (elim h [ inl b ↦ inl b | inr e ↦ inr e.0 ]),
    )

pub returns : goal.returns
returns c q =
    let got : c.apply.result.0.0 ≡ (transition c.args.table.now c.args.operation.0 c.args.state).0 = ap (λ (p : ℕ × ℕ). p.0) c.apply.ensures.value in
    (λ h. inl h, λ h. elim h [ inl b ↦ b | inr e ↦ absurd (omega (arith, got, e.1, c.if-got-response.false)) ])
