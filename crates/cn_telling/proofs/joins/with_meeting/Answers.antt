use Rattle.std.proofs.Common.{ℕ, ◌<◌, ◌⊎◌, ◌↔◌, ◌∙◌, inl, inr, arith, length, length-set}
use Rattle.std.specs.Prelude.{IsBitSet}
use Rattle.cn_stocks.specs.Meetings.{HasAt}
use Rattle.cn_stocks.specs.Pairs.{set_at}
use Rattle.cn_stocks.proofs.PairLemmas.{none_behind}
use Rattle.cn_stocks.proofs.StockLemmas.{before_or_behind}
use Rattle.cn_telling.specs.Joined.{HaveCommonPair}
use Rattle.cn_telling.proofs.ArrayLemmas.{set_done, set_rest}
use Rattle.cn_telling.proofs.joins.with_meeting.Goals as goal

pub loop-first-preserved : goal.loop-first-preserved
loop-first-preserved c =
    let i = c.loop-first.invariant in
    let k = c.loop-first.first in
    let more = c.loop-first.more in
    let pairs = c.args.pairs.now in
    let joined = c.args.joined.now in
    let set = c.union.result in
    let room : k < length more = omega (arith, i.long, c.loop-first-test.true) in
    let here : (g : ℕ) → IsBitSet set g ↔ (HasAt joined k g ⊎ HaveCommonPair (set_at pairs k) (set_at pairs g)) = λ g. (
      λ b. elim ((c.union.ensures g).0 b) [ inl x ↦ inl ((i.left k g (omega arith)).0 x) | inr x ↦ inr ((c.meeting.ensures g).0 x) ],
      λ h. (c.union.ensures g).1 (elim h [ inl x ↦ inl ((i.left k g (omega arith)).1 x) | inr x ↦ inr ((c.meeting.ensures g).1 x) ]),
    ) in
    record {
      long = length-set more k set ∙ i.long;
      pairs_long = i.pairs_long;
      done = λ f g l. set_done 0 (λ f s. (g : ℕ) → IsBitSet s g ↔ (HasAt joined f g ⊎ HaveCommonPair (set_at pairs f) (set_at pairs g))) more k set room here (λ f l g. i.done f g l) f l g;
      left = λ f g l. set_rest 0 (λ f s. (g : ℕ) → IsBitSet s g ↔ HasAt joined f g) more k set (λ f l g. i.left f g l) f l g;
    }

pub returns : goal.returns
returns c f g =
    let i = c.loop-first.invariant in
    elim (before_or_behind f c.loop-first.first) [
      | inl l ↦ i.done f g l
      | inr l ↦ (
        λ h. inl ((i.left f g l).0 h),
        λ h. elim h [
          | inl x ↦ (i.left f g l).1 x
          | inr x ↦ absurd (none_behind c.args.pairs.now f x.0 x.1.0 (omega (arith, l, i.pairs_long, c.loop-first-test.false)) x.1.1)
        ],
      )
    ]
