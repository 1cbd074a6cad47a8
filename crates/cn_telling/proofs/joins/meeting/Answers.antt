use Rattle.std.proofs.Common.{rules, ℕ, ◌<◌, ◌+◌, ◌↔◌, ◌∙◌, inl, inr, arith, subst, sym, true≢false}
use Rattle.std.specs.Prelude.{IsBitSet}
use Rattle.cn_outcomes.proofs.LastProcess.{zero_has_none}
use Rattle.cn_outcomes.proofs.Packing.{below_or_last}
use Rattle.cn_stocks.specs.Pairs.{set_at}
use Rattle.cn_stocks.proofs.PairLemmas.{none_behind}
use Rattle.cn_stocks.proofs.StockLemmas.{before_or_behind}
use Rattle.cn_telling.specs.Joined.{HaveCommonPair}
use Rattle.cn_telling.proofs.joins.meeting.Goals as goal
use Rattle.cn_telling.proofs.joins.meeting.Goals.{then-meets, else-meets}

pub loop-other-preserved : goal.loop-other-preserved
loop-other-preserved c =
    let i = c.loop-other.invariant in
    let k = c.loop-other.other in
    let pairs = c.args.pairs.now in
    let set = c.args.set.now in
    record {
      long = i.long;
      found = λ g. elim c.if-meets.branch [
        | then-meets w ↦ subst (λ (x : ℕ). IsBitSet x g ↔ ((g < k + 1) × HaveCommonPair set (set_at pairs g))) (sym w.found-is) (
          λ b. elim ((w.with-found.ensures g).0 b) [
            | inl old ↦ (let h = (i.found g).0 old in (omega (arith, h.0), h.1))
            | inr e ↦ (omega (arith, e), subst (λ (j : ℕ). HaveCommonPair set (set_at pairs j)) (sym e) (c.meets.ensures.0 w.if-meets.true))
          ],
          λ h. (w.with-found.ensures g).1 (elim (below_or_last g k h.0) [ inl l ↦ inl ((i.found g).1 (l, h.1)) | inr e ↦ inr e ]),
        )
        | else-meets w ↦ subst (λ (x : ℕ). IsBitSet x g ↔ ((g < k + 1) × HaveCommonPair set (set_at pairs g))) (sym w.found-is) (
          λ b. (let h = (i.found g).0 b in (omega (arith, h.0), h.1)),
          λ h. elim (below_or_last g k h.0) [
            | inl l ↦ (i.found g).1 (l, h.1)
            | inr e ↦ absurd (true≢false (sym (c.meets.ensures.1 (subst (λ (j : ℕ). HaveCommonPair set (set_at pairs j)) e h.1)) ∙ w.if-meets.false))
          ],
        )
      ];
    }

pub loop-other-init : goal.loop-other-init
loop-other-init c = record { long = search rules; found = λ g. (λ b. absurd (zero_has_none g b), λ h. absurd (omega (arith, h.0))) }

pub returns : goal.returns
returns c g =
    let i = c.loop-other.invariant in (
      λ b. ((i.found g).0 b).1,
      λ h. (i.found g).1 (
        elim (before_or_behind g 8) [
          | inl l ↦ omega (arith, l, c.loop-other-test.false)
          | inr l ↦ absurd (none_behind c.args.pairs.now g h.0 h.1.0 (omega (arith, l, i.long)) h.1.2)
        ],
        h,
      ),
    )
