use Rattle.std.proofs.Common.{ℕ, ◌≡◌, ◌∙◌, List, Some, ap, arith, inl, inr, length, refl, subst, sym, true≢false}
use Rattle.std.specs.Prelude.{slice_get}
use Rattle.std.proofs.lemmas.Option.{same_Some, slice_get_within}
use Rattle.cn_outcomes.proofs.Packing.{below_or_last}
use Rattle.cn_joins.specs.Joins.{Connect}
use Rattle.cn_stocks.specs.declared.stocks.Stock.{Stock}
use Rattle.cn_stocks.specs.Words.{IsKnown}
use Rattle.cn_stocks.proofs.StockLemmas.{read_stock}
use Rattle.cn_telling.proofs.CandidateLemmas.{search_long}
use Rattle.cn_join_find.specs.Crossing.{IsPart}
use Rattle.cn_telling.specs.Rows.{RowsDiffer}
use Rattle.cn_join_find.specs.Marks.{IsWitnessFor}
use Rattle.cn_join_find.proofs.CrossLemmas.{none_match}
use Rattle.cn_join_find.proofs.SearchLemmas.{above_of}
use Rattle.cn_join_find.proofs.ReachLemmas.{all_more, more_trans, none_more, still_connect}
use Rattle.cn_join_find.proofs.against.first_split.Goals as goal

pub loop-stock-init : goal.loop-stock-init
loop-stock-init c = record {
  more = none_more c.args.table.now c.args.start c.args.joins.now.items;
  are = c.requires.joins;
  connect = λ i s l at differ. absurd (omega (arith, l));
}

pub rows_differ-requires : goal.rows_differ-requires
rows_differ-requires c =
    let search = c.args.search.now in
    let i = c.loop-stock.stock-index in
    let s = c.stock-item.result in
    let here = subst (λ (l : List Stock). slice_get l i ≡ Some s) c.deref-stock-items.ensures.value (read_stock c.deref-stock-items.result.now i s (omega (arith, c.loop-stock-test.true)) c.stock-item.is) in
    (search.below.stocks.list.items, c.requires.search.stocks.stocks i s here)

pub part_of-requires-clause-above : goal.part_of-requires-clause-above
part_of-requires-clause-above c =
    let t = c.args.table.now in
    let search = c.args.search.now in
    let i = c.loop-stock.stock-index in
    let s = c.stock-item.result in
    let here = subst (λ (l : List Stock). slice_get l i ≡ Some s) c.deref-stock-items.ensures.value (read_stock c.deref-stock-items.result.now i s (omega (arith, c.loop-stock-test.true)) c.stock-item.is) in
    above_of t c.args.n search c.requires.search c.args.start c.args.joins.now.items c.loop-stock.joins.items c.args.marks.now _ i s c.loop-stock.invariant.more c.requires.marks
    c.as_slice.ensures.value refl here (c.rows_differ.ensures.0 c.if-not-rows_differ.false)

pub part_of-requires-clause-some : goal.part_of-requires-clause-some
part_of-requires-clause-some c =
    let i = c.loop-stock.stock-index in
    let s = c.stock-item.result in
    let here = subst (λ (l : List Stock). slice_get l i ≡ Some s) c.deref-stock-items.ensures.value (read_stock c.deref-stock-items.result.now i s (omega (arith, c.loop-stock-test.true)) c.stock-item.is) in
    omega (arith, search_long c.args.table.now c.args.n c.args.search.now i s c.requires.search here, c.requires.some)

pub split_by-requires-clause-part : goal.split_by-requires-clause-part
split_by-requires-clause-part c =
    let part = rw c.in-Some.is at c.in_ok-found.ensures.part in
    subst (λ (l : List ℕ). IsPart c.args.table.now c.args.start l c.in-Some.set) (sym c.as_slice-in-Some.ensures.value) part

pub split_by-requires-clause-known : goal.split_by-requires-clause-known
split_by-requires-clause-known c =
    let i = c.loop-stock.stock-index in
    let s = c.stock-item.result in
    let here = subst (λ (l : List Stock). slice_get l i ≡ Some s) c.deref-stock-items.ensures.value (read_stock c.deref-stock-items.result.now i s (omega (arith, c.loop-stock-test.true)) c.stock-item.is) in
    subst (IsKnown (length c.args.table.now.operations)) (sym c.as_slice-in-Some.ensures.value) (c.requires.search.stocks.stocks i s here).known

-- a stock whose rows do not differ
pub loop-stock-preserved-then-not-rows_differ : goal.loop-stock-preserved-then-not-rows_differ
loop-stock-preserved-then-not-rows_differ c =
    let t = c.args.table.now in
    let list = c.args.search.now.stocks.list.items in
    let i = c.loop-stock.stock-index in
    let s = c.stock-item.result in
    let here = subst (λ (l : List Stock). slice_get l i ≡ Some s) c.deref-stock-items.ensures.value (read_stock c.deref-stock-items.result.now i s (omega (arith, c.loop-stock-test.true)) c.stock-item.is) in
    let v = c.loop-stock.invariant in
    record {
      more = v.more;
      are = v.are;
      connect = λ j r l at differ. elim (below_or_last j i l) [
        | inl u ↦ v.connect j r u at differ
        | inr e ↦ (
            let same : r ≡ s = same_Some r s (sym at ∙ subst (λ (k : ℕ). slice_get list k ≡ Some s) (sym e) here) in
            absurd (true≢false (sym (c.rows_differ.ensures.1 (subst (λ (x : Stock). RowsDiffer t x.operations.items) same differ)) ∙ c.if-not-rows_differ.true))
            )
      ];
    }

pub loop-stock-preserved : goal.loop-stock-preserved
loop-stock-preserved c =
    let t = c.args.table.now in
    let start = c.args.start in
    let list = c.args.search.now.stocks.list.items in
    let i = c.loop-stock.stock-index in
    let s = c.stock-item.result in
    let here = subst (λ (l : List Stock). slice_get l i ≡ Some s) c.deref-stock-items.ensures.value (read_stock c.deref-stock-items.result.now i s (omega (arith, c.loop-stock-test.true)) c.stock-item.is) in
    let v = c.loop-stock.invariant in
    let old = c.loop-stock.joins.items in
    let new = c.part_of.new.joins.items in
    let told = c.in_ok-found.ensures in
    let connected = none_match (Connect new start s.operations.items) (IsPart t start s.operations.items) c.in_ok-found.found c.in_default.not-Some told.part in
    record {
      more = more_trans t start c.args.joins.now.items old new v.more told.more;
      are = all_more t start old new told.more v.are;
      connect = λ j r l at differ. elim (below_or_last j i l) [
        | inl u ↦ still_connect t start old new r.operations.items told.more (v.connect j r u at differ)
        | inr e ↦ (
            let same : s ≡ r = same_Some s r (sym (subst (λ (k : ℕ). slice_get list k ≡ Some s) (sym e) here) ∙ at) in
            subst (λ (x : Stock). Connect new start x.operations.items) same connected
            )
      ];
    }

pub returns-in-Some : goal.returns-in-Some
returns-in-Some c =
    let t = c.args.table.now in
    let i = c.loop-stock.stock-index in
    let s = c.stock-item.result in
    let here = subst (λ (l : List Stock). slice_get l i ≡ Some s) c.deref-stock-items.ensures.value (read_stock c.deref-stock-items.result.now i s (omega (arith, c.loop-stock-test.true)) c.stock-item.is) in
    let long : length c.as_slice-in-Some.result.now ≡ c.args.n = ap length c.as_slice-in-Some.ensures.value ∙ search_long t c.args.n c.args.search.now i s c.requires.search here in
    record {
      more = more_trans t c.args.start c.args.joins.now.items c.loop-stock.joins.items c.part_of.new.joins.items c.loop-stock.invariant.more c.in_ok-found.ensures.more;
      split = subst (λ (n : ℕ). IsWitnessFor t n c.in_ok-split.split) long c.in_ok-split.ensures;
    }

pub returns : goal.returns
returns c =
    let v = c.loop-stock.invariant in
    let list = c.args.search.now.stocks.list.items in
    record {
      more = v.more;
      split = λ i s at differ. v.connect i s (omega (arith, slice_get_within list i s at, c.loop-stock-test.false, c.loop-stock.auto.stock-index-end, ap length c.deref-stock-items.ensures.value)) at differ;
    }
