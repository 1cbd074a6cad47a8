use Rattle.std.proofs.Common.{ℕ, ◌⊎◌, ◌↔◌, ◌∙◌, inl, inr, arith, subst, sym, true≢false}
use Rattle.std.specs.Prelude.{IsBitSet}
use Rattle.cn_outcomes.proofs.Packing.{below_or_last}
use Rattle.cn_stocks.specs.Meetings.{AreGathered, HasAt}
use Rattle.cn_stocks.proofs.MeetingLemmas.{gathered_union, place_within}
use Rattle.cn_telling.proofs.meetings.grow.Goals as goal
use Rattle.cn_telling.proofs.meetings.grow.Goals.{then-meet, else-meet}

pub loop-operation-preserved : goal.loop-operation-preserved
loop-operation-preserved c =
    let sets = c.args.sets.now in
    let k = c.loop-operation.operation in
    let i = c.loop-operation.invariant in
    let grown = c.loop-operation.grown in
    elim c.if-meet.branch [
      | then-meet w ↦ (
          let added : (q : ℕ) → IsBitSet c.if-meet.grown q ↔ (IsBitSet grown q ⊎ HasAt sets k q) = λ q. subst (λ (set : ℕ). IsBitSet set q ↔ (IsBitSet grown q ⊎ HasAt sets k q))
          (sym w.grown-is) (w.union-grown.ensures q) in
          let common = c.meet.ensures.0 w.if-meet.true in
          record {
            long = i.long;
            kept = λ q b. (added q).1 (inl (i.kept q b));
            done = λ f q r l a b d. (added r).1 (elim (below_or_last f k l) [ inl u ↦ inl (i.done f q r u a b d) | inr e ↦ inr (subst (λ (x : ℕ). HasAt sets x r) e d) ]);
            gathered = λ first g. gathered_union sets first grown k c.if-meet.grown (i.gathered first g) added (common.0, common.1, common.2);
          }
          )
      | else-meet w ↦ (
          let back : (q : ℕ) → IsBitSet grown q → IsBitSet c.if-meet.grown q = λ q b. subst (λ (set : ℕ). IsBitSet set q) (sym w.grown-is) b in
          record {
            long = i.long;
            kept = λ q b. back q (i.kept q b);
            done = λ f q r l a b d. back r (elim (below_or_last f k l) [
              | inl u ↦ i.done f q r u a b d
              | inr e ↦ absurd (true≢false (sym (c.meet.ensures.1 (q, subst (λ (x : ℕ). HasAt sets x q) e a, i.kept q b)) ∙ w.if-meet.false))
            ]);
            gathered = λ first g. subst (AreGathered sets first) (sym w.grown-is) (i.gathered first g);
          }
          )
    ]

pub returns-clause-grown : goal.returns-clause-grown
returns-clause-grown c f q r a b d =
    let i = c.loop-operation.invariant in
    i.done f q r (omega (arith, place_within 8 c.args.sets.now f q i.long a, c.loop-operation-test.false)) a b d
