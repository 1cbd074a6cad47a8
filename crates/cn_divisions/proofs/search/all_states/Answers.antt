use Rattle.std.proofs.Common.{ℕ, ◌≡◌, ◌<◌, arith, subst}
use Rattle.std.specs.Prelude.{IsBitSet}
use Rattle.cn_outcomes.proofs.MemberLemmas.{all_set}
use Rattle.cn_stocks.specs.Each.{EachAt}
use Rattle.cn_stocks.proofs.EachLemmas.{each_none, each_push}
use Rattle.cn_divisions.proofs.search.all_states.Goals as goal

pub loop-place-init : goal.loop-place-init
loop-place-init c = each_none _ c.in_ok-sets.sets.items c.in_ok-sets.ensures.items

pub loop-place-preserved : goal.loop-place-preserved
loop-place-preserved c = each_push (λ i set. (q : ℕ) → q < 16 → IsBitSet set q) c.loop-place.sets.items c.push.new.self.items 65535 c.loop-place._place c.in_ok-push.ensures.items c.loop-place.invariant (λ q l. (all_set q).1 l)

pub returns : goal.returns
returns c =
    let fit : ℕ → ℕ → Type 0 = λ i set. (q : ℕ) → q < 16 → IsBitSet set q in
    let end : c.loop-place._place ≡ c.args.count = omega (arith, c.loop-place-test.false, c.loop-place.auto._place-end) in
    subst (λ (k : ℕ). EachAt fit k c.loop-place.sets.items) end c.loop-place.invariant
