use Rattle.std.proofs.Common.{ℕ, ◌≡◌, ◌∙◌, inl, inr, ap, sym, subst}
use Rattle.cn_table.specs.TypeTable.{transition}
use Rattle.cn_stocks.specs.Pairs.{Has}
use Rattle.cn_stocks.specs.Reach.{EndsWithin}
use Rattle.cn_stocks.proofs.Steps.{at_once_is, at_once_none}
use Rattle.cn_telling.proofs.shown.shown_at_once.Goals as goal

pub returns-in-Some : goal.returns-in-Some
returns-in-Some c r q =
    let t = c.args.setting.now.table.now in
    let u = c.args.start in
    let items = c.args.setting.now.stock.now.operations.items in
    let o = c.args.asked in
    let less = c.in-Some.ensures in
    let answer : c.apply.result.0.0 ≡ (transition t o u).0 = ap (λ (p : ℕ × ℕ). p.0) c.apply.ensures.value in
    let next : c.apply.result.1.0 ≡ (transition t o u).1 = ap (λ (p : ℕ × ℕ). p.1) c.apply.ensures.value in
    let ends = less.2 c.apply.result.1.0 c.apply.ensures.next q in
    let added = c.add_states.ensures r q in
    at_once_is t u items o less.0 less.1 r q (Has c.add_states.new.self r q) (
      λ h. elim (added.0 h) [
        | inl a ↦ absurd (c.none-set.ensures r q a)
        | inr a ↦ (sym (a.0 ∙ answer), subst (λ (n : ℕ). EndsWithin t n less.0 q) next (ends.0 a.1))
      ],
      λ p. added.1 (inr (sym p.0 ∙ sym answer, ends.1 (subst (λ (n : ℕ). EndsWithin t n less.0 q) (sym next) p.1))),
    )

pub returns-in_default : goal.returns-in_default
returns-in_default c r q = (
  λ h. absurd (c.none-set.ensures r q h),
  λ p. absurd (at_once_none c.args.setting.now.table.now c.args.start c.args.setting.now.stock.now.operations.items c.args.asked r q c.in_default.ensures p),
)
