use Rattle.std.proofs.Common.{ℕ, ◌≡◌, ◌∙◌, inl, inr, ap, arith, sym, subst}
use Rattle.cn_table.specs.TypeTable.{transition}
use Rattle.cn_collisions.specs.Exact.{EndsAfter}
use Rattle.cn_collisions.proofs.word_sets.shown_now.Goals as goal

pub after-requires : goal.after-requires
after-requires c =
    let s = c.args.setting.now in
    record {
      t = s.table.now;
      m = s.size;
      stock = s.stock.now.operations.items;
      ends_are = c.requires.own;
      count = c.requires.few;
      small = omega (arith, c.apply.ensures.next, c.states-states.ensures.number, c.states-states.ensures.range.1);
    }

pub returns : goal.returns
returns c r q =
    let s = c.args.setting.now in
    let t = s.table.now in
    let u = c.args.start in
    let o = c.args.asked in
    let items = s.stock.now.operations.items in
    let answer : c.apply.result.0.0 ≡ (transition t o u).0 = ap (λ (p : ℕ × ℕ). p.0) c.apply.ensures.value in
    let next : c.apply.result.1.0 ≡ (transition t o u).1 = ap (λ (p : ℕ × ℕ). p.1) c.apply.ensures.value in
    let ends = c.after.ensures t s.size items c.requires.own c.requires.few c.apply.ensures.next q in
    let added = c.add_states.ensures r q in (
      λ h. elim (added.0 h) [
        | inl a ↦ absurd (c.none-set.ensures r q a)
        | inr a ↦ (sym (a.0 ∙ answer), subst (λ (n : ℕ). EndsAfter t n items c.args.count q) next (ends.0 a.1))
      ],
      λ p. added.1 (inr (sym p.0 ∙ sym answer, ends.1 (subst (λ (n : ℕ). EndsAfter t n items c.args.count q) (sym next) p.1))),
    )
