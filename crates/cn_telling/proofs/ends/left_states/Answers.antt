use Rattle.std.proofs.Common.{ℕ, ◌≡◌, ◌<◌, ◌↔◌, ◌∙◌, List, inl, inr, ap, arith, get_or, length, length-set, refl, subst, sym, get_or-set_other, get_or-set_same}
use Rattle.std.specs.Prelude.{IsBitSet}
use Rattle.std.proofs.Math.ListN.{set}
use Rattle.cn_table.specs.TypeTable.{transition}
use Rattle.cn_stocks.specs.Meetings.{HasAt}
use Rattle.cn_stocks.specs.Reach.{EndsWithin}
use Rattle.cn_stocks.specs.Words.{EndsIn}
use Rattle.cn_stocks.proofs.MeetingLemmas.{none_held}
use Rattle.cn_stocks.proofs.StockLemmas.{before_or_behind}
use Rattle.cn_stocks.proofs.Steps.{left_first, left_is}
use Rattle.cn_stocks.proofs.Times.{same_or}
use Rattle.cn_telling.proofs.ends.left_states.Goals as goal
use Rattle.cn_telling.proofs.ends.left_states.Goals.{in-Some, in_default}

pub loop-operation-init : goal.loop-operation-init
loop-operation-init c = record {
  long = refl;
  done = λ f q l. absurd (omega (arith, l));
  none = λ f q l h. none_held 8 f q h;
}

pub loop-operation-preserved : goal.loop-operation-preserved
loop-operation-preserved c =
    let t = c.args.setting.now.table.now in
    let u = c.args.start in
    let items = c.args.setting.now.stock.now.operations.items in
    let k = c.loop-operation.operation in
    let sets = c.loop-operation.sets in
    let i = c.loop-operation.invariant in
    let room : k < length sets = omega (arith, i.long, c.loop-operation-test.true, c.operations-operation-end.ensures.range.1) in
    elim c.match-less_ends.branch [
      | in-Some w ↦ (
          let less = w.in-Some.ensures in
          let next : w.apply.result.1.0 ≡ (transition t k u).1 = ap (λ (p : ℕ × ℕ). p.1) w.apply.ensures.value in
          let new = get_or w.in-Some.ends.now.states w.apply.result.1.0 0 in
          let here : (q : ℕ) → IsBitSet new q ↔ EndsIn t u items k q = λ q. left_is t u items k less.0 less.1 q (IsBitSet new q)
          (subst (λ (n : ℕ). IsBitSet new q ↔ EndsWithin t n less.0 q) next (less.2 w.apply.result.1.0 w.apply.ensures.next q)) in
          record {
            long = ap length w.sets-is ∙ (length-set sets k new ∙ i.long);
            done = λ f q l. subst (λ (all : List ℕ). HasAt all f q ↔ EndsIn t u items f q) (sym w.sets-is) (elim (same_or f k) [
              | inl e ↦ subst (λ (x : ℕ). HasAt (set sets k new) x q ↔ EndsIn t u items x q) (sym e)
                  (subst (λ (s : ℕ). IsBitSet s q ↔ EndsIn t u items k q) (sym (get_or-set_same sets k new 0 room)) (here q))
              | inr n ↦ subst (λ (s : ℕ). IsBitSet s q ↔ EndsIn t u items f q) (sym (get_or-set_other sets k f new 0 n)) (i.done f q (omega (arith, l, n)))
            ]);
            none = λ f q l h. i.none f q (omega (arith, l))
                (subst (λ (s : ℕ). IsBitSet s q) (get_or-set_other sets k f new 0 (λ e. absurd (omega (arith, l, e)))) (subst (λ (all : List ℕ). HasAt all f q) w.sets-is h));
          }
          )
      | in_default w ↦ record {
        long = ap length w.sets-is ∙ i.long;
        done = λ f q l. subst (λ (all : List ℕ). HasAt all f q ↔ EndsIn t u items f q) (sym w.sets-is) (elim (same_or f k) [
          | inl e ↦ subst (λ (x : ℕ). HasAt sets x q ↔ EndsIn t u items x q) (sym e) (
            λ h. absurd (i.none k q (omega arith) h),
            λ x. absurd (omega (arith, w.in_default.ensures, left_first t u items k q x)),
          )
          | inr n ↦ i.done f q (omega (arith, l, n))
        ]);
        none = λ f q l h. i.none f q (omega (arith, l)) (subst (λ (all : List ℕ). HasAt all f q) w.sets-is h);
      }
    ]

pub returns : goal.returns
returns c f q =
    let s = c.args.setting.now in
    let items = s.stock.now.operations.items in
    let i = c.loop-operation.invariant in
    let end : c.loop-operation.operation ≡ length s.table.now.operations = omega
    (arith, c.operations-operation-end.ensures.number, c.loop-operation-test.false, c.loop-operation.auto.operation-end) in (
      λ h. elim (before_or_behind f c.loop-operation.operation) [ inl l ↦ (i.done f q l).0 h | inr l ↦ absurd (i.none f q l h) ],
      λ e. (i.done f q (omega (arith, end, c.requires.setting.1.stock_is.known f (left_first s.table.now c.args.start items f q e)))).1 e,
    )
