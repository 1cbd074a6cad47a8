use Rattle.std.proofs.Common.{◌+◌, ◌∙◌, arith, sym, subst, inl, inr, length, None, get_or, slice_set, length-set}
use Rattle.std.proofs.lemmas.List.{get_or-set_other, get_or-set_same}
use Rattle.std.proofs.lemmas.Option.{slice_get_within}
use Rattle.cn_shortest.specs.Loads.{IsEntry, roots_in, table_of}
use Rattle.cn_shortest.proofs.Elements.{below_or_last, read_at}
use Rattle.cn_shortest.proofs.loads.next_row.Goals as goal

pub loop-budget-preserved : goal.loop-budget-preserved
loop-budget-preserved c =
    let loads = c.loop-budget.loads in
    let k = c.loop-budget.budget in
    let new = c.entry.result in
    let best = table_of c.args.rows.now in
    let n = length c.args.rows.now + 1 in
    let roots = roots_in c.args.roots.now in
    let long = c.loop-budget.invariant.long in
    record {
      long = length-set loads k new ∙ long;
      each = λ i l. elim (below_or_last i k l) [
        | inl m ↦ subst (IsEntry best n i roots) (sym (get_or-set_other loads k i new None (λ e. omega (arith, e, m)))) (c.loop-budget.invariant.each i m)
        | inr m ↦ subst (λ j. IsEntry best n j roots (get_or (slice_set loads k new) j None)) (sym m)
            (subst (IsEntry best n k roots) (sym (get_or-set_same loads k new None (omega (arith, long, c.loop-budget-test.true)))) c.entry.ensures)
      ];
    }

pub returns : goal.returns
returns c = (
  c.loop-budget.invariant.long,
  λ i x e.
      let l = slice_get_within c.loop-budget.loads i x e in
      subst (IsEntry (table_of c.args.rows.now) (length c.args.rows.now + 1) i (roots_in c.args.roots.now)) (read_at c.loop-budget.loads i x None e)
      (c.loop-budget.invariant.each i (omega (arith, l, c.loop-budget.invariant.long, c.loop-budget-test.false))),
)
