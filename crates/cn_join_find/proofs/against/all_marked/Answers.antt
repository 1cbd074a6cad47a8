use Rattle.std.proofs.Common.{◌≡◌, ◌∙◌, List, Bool, Some, true, false, ap, arith, inl, inr, length, subst, sym, true≢false}
use Rattle.std.specs.Prelude.{slice_get}
use Rattle.std.proofs.lemmas.Option.{none-some}
use Rattle.cn_stocks.proofs.StockLemmas.{count_push}
use Rattle.cn_telling.proofs.CellLemmas.{at_push}
use Rattle.cn_join_find.proofs.against.all_marked.Goals as goal

pub loop-place-init : goal.loop-place-init
loop-place-init c = record {
  count = ap length c.in_ok-marks.ensures.items;
  none = λ i e. none-some _ (sym (ap (λ (l : List Bool). slice_get l i) c.in_ok-marks.ensures.items) ∙ e);
}

pub loop-place-preserved : goal.loop-place-preserved
loop-place-preserved c =
    let v = c.loop-place.invariant in
    let old = c.loop-place.marks.items in
    record {
      count = count_push old c.push.new.self.items true c.loop-place._place c.in_ok-push.ensures.items v.count;
      none = λ i e. elim (at_push old true i false (subst (λ (l : List Bool). slice_get l i ≡ Some false) c.in_ok-push.ensures.items e)) [
        | inl h ↦ v.none i h.1
        | inr h ↦ true≢false h.1
      ];
    }

pub returns-clause-count : goal.returns-clause-count
returns-clause-count c = omega (arith, c.loop-place.invariant.count, c.loop-place-test.false, c.loop-place.auto._place-end)
