use Rattle.std.proofs.Common.{List, [], ◌∷◌, ◌++◌, ◌≡◌, ◌+◌, ◌∙◌, arith, ap, sym, subst, length, length-append, ◌<◌, None, Some, replicate, refl}
use Rattle.std.proofs.lemmas.List.{get_or-replicate}
use Rattle.std.proofs.lemmas.Option.{slice_get_read}
use Rattle.cn_stocks.specs.Each.{EachAt}
use Rattle.cn_tree_costs.specs.Least.{IsLoadTable}
use Rattle.cn_shortest.specs.Loads.{AreAllOf, IsEntry, IsSmallTable, all_roots, roots_in, table_of}
use Rattle.cn_shortest.specs.declared.loads.Row.{Row}
use Rattle.cn_shortest.proofs.Rows.{first_small, first_table, small_more, table_more}
use Rattle.cn_shortest.proofs.loads.rows.Goals as goal

abbrev first_row : Row
first_row = record { loads = replicate 29 (Some (record { nodes = 0; sum = 0 })) }

pub loop-place-init : goal.loop-place-init
loop-place-init c =
    let is : c.push.new.self.items ≡ first_row ∷ [] = c.in_ok-push.ensures.items ∙ ap (λ (l : List Row). l ++ first_row ∷ []) c.new-rows.ensures.items in
    record {
      long = ap length is;
      small = subst (λ (l : List Row). IsSmallTable (table_of l)) (sym is) (first_small first_row (λ b l. get_or-replicate 29 b _ None (omega (arith, l))) refl);
      table = subst (λ (l : List Row). IsLoadTable (all_roots c.args.roots.now) 1 28 (table_of l)) (sym is) (first_table first_row (λ b l. get_or-replicate 29 b _ None (omega (arith, l))) refl c.args.roots.now);
    }

pub next_row-row-requires-clause-roots : goal.next_row-row-requires-clause-roots
next_row-row-requires-clause-roots c =
    let roots = c.args.roots.now in
    let k = c.loop-place.place in
    let here = slice_get_read roots (length roots) k c.index-roots-place.result refl c.loop-place-test.true c.index-roots-place.is in
    let n : k + 2 ≡ length c.as_slice.result.now + 1 = omega (arith, ap length c.as_slice.ensures.value, c.loop-place.invariant.long) in
    subst (λ m. AreAllOf m c.index-roots-place.result) n (c.requires.roots k c.index-roots-place.result here)

pub loop-place-preserved : goal.loop-place-preserved
loop-place-preserved c =
    let roots = c.args.roots.now in
    let k = c.loop-place.place in
    let old = c.loop-place.rows.items in
    let row = c.next_row-row.result in
    let r = c.index-roots-place.result in
    let here = slice_get_read roots (length roots) k r refl c.loop-place-test.true c.index-roots-place.is in
    let entries : EachAt (λ b load. IsEntry (table_of old) (length old + 1) b (roots_in r) load) 29 row.loads =
    subst (λ (l : List Row). EachAt (λ b load. IsEntry (table_of l) (length l + 1) b (roots_in r) load) 29 row.loads) c.as_slice.ensures.value c.next_row-row.ensures in
    let long = c.loop-place.invariant.long in
    let few : k < 7 = omega (arith, c.requires.few, c.loop-place-test.true) in
    let is = c.in_ok-push-2.ensures.items in
    let next : k + 2 ≡ k + 1 + 1 = omega arith in
    record {
      long = ap length is ∙ (length-append old (row ∷ []) ∙ ap (λ n. n + 1) long);
      small = subst (λ (l : List Row). IsSmallTable (table_of l)) (sym is) (small_more roots old row k r long here few c.requires.roots c.loop-place.invariant.small c.loop-place.invariant.table entries);
      table = subst (λ (l : List Row). IsLoadTable (all_roots roots) (k + 1 + 1) 28 (table_of l)) (sym is)
          (subst (λ m. IsLoadTable (all_roots roots) m 28 (table_of (old ++ row ∷ []))) next (table_more roots old row k r long here few c.requires.roots c.loop-place.invariant.small c.loop-place.invariant.table entries));
    }
