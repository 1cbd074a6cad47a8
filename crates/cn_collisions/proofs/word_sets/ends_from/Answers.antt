use Rattle.std.proofs.Common.{ℕ, ◌≡◌, ◌↔◌, inl, inr, subst, sym}
use Rattle.std.specs.Prelude.{IsBitSet}
use Rattle.cn_outcomes.proofs.LastProcess.{zero_has_none}
use Rattle.cn_collisions.specs.Exact.{EndsAfter}
use Rattle.cn_collisions.proofs.ExactWords.{ends_none}
use Rattle.cn_collisions.proofs.word_sets.ends_from.Goals as goal

pub returns-then-count-eq0 : goal.returns-then-count-eq0
returns-then-count-eq0 c q =
    let s = c.args.setting.now in
    let none : c.args.count ≡ 0 = c.if-count-eq0.true in
    subst (λ (k : ℕ). IsBitSet c.with.result q ↔ EndsAfter s.table.now c.args.start s.stock.now.operations.items k q) (sym none)
    (ends_none s.table.now c.args.start s.stock.now.operations.items q (IsBitSet c.with.result q)
    (λ b. elim ((c.with.ensures q).0 b) [ inl z ↦ absurd (zero_has_none q z) | inr e ↦ e ], λ e. (c.with.ensures q).1 (inr e)))
