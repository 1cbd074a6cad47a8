use Rattle.std.proofs.Common.{ℕ, ◌≡◌, ◌∙◌, inl, inr, arith, subst, sym, true, true≢false}
use Rattle.std.specs.Prelude.{IsBitSet}
use Rattle.cn_outcomes.proofs.Packing.{below_or_last}
use Rattle.cn_stocks.specs.Components.{AreReached, IsJoinedWithSome}
use Rattle.cn_stocks.proofs.Steps.{shows_first}
use Rattle.cn_stocks.proofs.splits.grow.Goals as goal
use Rattle.cn_stocks.proofs.splits.grow.Goals.{then-has+then-not-contains+then-touches, else-has, else-has-via-then-has+then-not-contains+else-touches, else-has-via-then-has+else-not-contains, else-has-via-else-has}

pub loop-operation-preserved : goal.loop-operation-preserved
loop-operation-preserved c =
    let s = c.args.setting.now in
    let t = s.table.now in
    let u = c.args.start in
    let items = s.stock.now.operations.items in
    let k = c.loop-operation.operation in
    let i = c.loop-operation.invariant in
    let reached = c.args.reached in
    elim c.if-has.branch [
      | then-has+then-not-contains+then-touches w ↦ (
          let added = w.with-grown.ensures in
          let joined = w.touches.ensures.0 w.if-touches.true in
          let back : (g : ℕ) → IsBitSet w.with-grown.result g → IsBitSet c.if-has.grown g = λ g b. subst (λ (set : ℕ). IsBitSet set g) (sym w.grown-is) b in
          record {
            reached = λ chosen sure closed g b. elim ((added g).0 (subst (λ (set : ℕ). IsBitSet set g) w.grown-is b)) [
              | inl a ↦ i.reached chosen sure closed g a
              | inr e ↦ subst (λ (x : ℕ). chosen x ≡ true) (sym e) (closed joined.0 k (i.reached chosen sure closed joined.0 joined.1) joined.2)
            ];
            kept = λ g b. back g ((added g).1 (inl (i.kept g b)));
            closed = λ g l j. back g ((added g).1 (elim (below_or_last g k l) [ inl a ↦ inl (i.closed g a j) | inr e ↦ inr e ]));
          }
          )
      | else-has w ↦ (
          let back : (g : ℕ) → IsBitSet c.loop-operation.grown g → IsBitSet c.if-has.grown g = λ g b. subst (λ (set : ℕ). IsBitSet set g) (sym w.grown-is) b in
          let here : IsJoinedWithSome t u items reached k → IsBitSet c.loop-operation.grown k = λ j. elim w.else-has.branch [
            | else-has-via-then-has+then-not-contains+else-touches v ↦ absurd (true≢false (sym (v.touches.ensures.1 (j.0, i.kept j.0 j.1, j.2)) ∙ v.if-touches.false))
            | else-has-via-then-has+else-not-contains v ↦ v.contains.ensures.0 v.if-not-contains.false
            | else-has-via-else-has v ↦ absurd (true≢false (sym (c.has.ensures.1 (shows_first t u items k j.2.0 j.2.1 j.2.2 j.2.4)) ∙ v.if-has.false))
          ] in
          record {
            reached = subst (λ (set : ℕ). AreReached t u items c.args.first set) (sym w.grown-is) i.reached;
            kept = λ g b. back g (i.kept g b);
            closed = λ g l j. back g (elim (below_or_last g k l)
                [ inl a ↦ i.closed g a j | inr e ↦ subst (λ (x : ℕ). IsBitSet c.loop-operation.grown x) (sym e) (here (subst (λ (x : ℕ). IsJoinedWithSome t u items reached x) e j)) ]);
          }
          )
    ]

pub returns-clause-grown : goal.returns-clause-grown
returns-clause-grown c g h = elim h [
  | inl b ↦ c.loop-operation.invariant.kept g b
  | inr j ↦ c.loop-operation.invariant.closed g (omega (arith, j.0, c.loop-operation-test.false, c.operations-operation-end.ensures.number)) j.1
]
