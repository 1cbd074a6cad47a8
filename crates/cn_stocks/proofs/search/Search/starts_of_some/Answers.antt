use Rattle.std.proofs.Common.{ℕ, ◌≡◌, ◌<◌, ◌↔◌, ap, arith, get_or, length, subst}
use Rattle.std.specs.Prelude.{IsBitSet}
use Rattle.cn_stocks.proofs.Decisions.{starts_of_some}
use Rattle.cn_stocks.proofs.search.Search.starts_of_some.Goals as goal

pub returns : goal.returns
returns c t n is =
    let s = c.args.self.now in
    let all : c.loop-starts.starts-index ≡ length s.starts.items = omega
    (arith, c.loop-starts-test.false, c.loop-starts.auto.starts-index-end, ap length c.deref-starts-items.ensures.value, c.deref-starts-items.ensures.len, s.starts.ok.0) in
    starts_of_some t n c.loop-starts.set s is (subst (λ (k : ℕ). (q : ℕ) → IsBitSet c.loop-starts.set q ↔ ((i : ℕ) × (i < k) × IsBitSet (get_or s.starts.items i 0) q)) all c.loop-starts.invariant)
