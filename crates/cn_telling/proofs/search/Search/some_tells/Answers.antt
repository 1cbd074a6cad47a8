use Rattle.std.proofs.Common.{ℕ, List, ◌≢◌, ◌<◌, ◌^◌, ap, arith, get_or, length, refl, rules, subst, sym, true≢false}
use Rattle.cn_telling.proofs.LevelLemmas.{none_starts, some_start}
use Rattle.cn_telling.proofs.search.Search.some_tells.Goals as goal

pub returns-then-starts-ne0 : goal.returns-then-starts-ne0
returns-then-starts-ne0 c t n is =
    let s = c.args.self.now in
    let i = c.loop-starts.starts-index in
    let items = s.starts.items in
    let small : get_or items i 0 < 2 ^ 16 = search rules in
    let inside : i < length items = omega (arith, c.loop-starts-test.true, ap length c.deref-starts-items.ensures.value, c.deref-starts-items.ensures.len, s.starts.ok.0) in
    let some : get_or items i 0 ≢ 0 = subst (λ (list : List ℕ). get_or list i 0 ≢ 0) c.deref-starts-items.ensures.value c.if-starts-ne0.true in
    (λ h. some_start t n s i is inside small some, λ h. refl)

pub returns : goal.returns
returns c t n is =
    let s = c.args.self.now in (
      λ h. absurd (true≢false (sym h)),
      λ h. absurd (none_starts t n s is
          (λ i l. c.loop-starts.invariant i (omega (arith, l, c.loop-starts-test.false, ap length c.deref-starts-items.ensures.value, c.deref-starts-items.ensures.len, s.starts.ok.0))) h),
    )
