use Rattle.std.proofs.Common.{ℕ, ◌≡◌, ◌≢◌, ◌≤◌, ◌+◌, ◌-◌, List, Bool, Some, true, arith, subst, sym}
use Rattle.std.specs.Prelude.{slice_get}
use Rattle.cn_stocks.specs.declared.stocks.Stock.{Stock}
use Rattle.cn_table.specs.TypeTable.{TypeTable}
use Rattle.cn_telling.specs.Levels.{IsSearch}
use Rattle.cn_telling.specs.declared.search.Search.{Search}
use Rattle.cn_join_find.specs.Marks.{AreMarked, IsWitnessFor}
use Rattle.cn_join_find.proofs.CrossLemmas.{match_weaker}
use Rattle.cn_join_find.proofs.SearchLemmas.{connect_from, connect_larger, each_connected}
use Rattle.cn_join_find.proofs.ReachLemmas.{all_more, more_trans, none_more}
use Rattle.cn_join_find.proofs.against.decide_from.Goals as goal

pub loop-size-init : goal.loop-size-init
loop-size-init g c = record {
  search_is = c.in_ok-search.ensures;
  more = none_more c.args.table.now c.args.start c.args.joins.now.items;
  are = c.requires.joins;
  marked = record { count = omega (arith, c.in_ok-marks.ensures.count, c.len.ensures, c.in_ok-search.search.stocks.list.ok.0); connect = λ i s at mark differ. absurd (c.in_ok-marks.ensures.none i mark) };
}

-- the search at the next number of operations
next_size : (t : TypeTable) (size : ℕ) (s : Search) → 1 ≤ size → IsSearch t (size - 1 + 1) s → IsSearch t size s
next_size t size s l is = let e : size - 1 + 1 ≡ size = omega (arith, l) in subst (λ (n : ℕ). IsSearch t n s) e is

pub all_marks-requires-clause-search : goal.all_marks-requires-clause-search
all_marks-requires-clause-search g c = next_size c.args.table.now c.loop-size.size c.in_ok-search-2.search (omega (arith, c.loop-size.auto.size)) c.in_ok-search-2.ensures.search

pub all_marks-requires-clause-marks : goal.all_marks-requires-clause-marks
all_marks-requires-clause-marks g c =
    let v = c.loop-size.invariant in
    subst (λ (list : List Stock). AreMarked c.args.table.now c.args.start c.loop-size.joins.items list c.as_slice.result.now) (sym c.in_ok-search-2.ensures.below)
    (subst (λ (marks : List Bool). AreMarked c.args.table.now c.args.start c.loop-size.joins.items c.loop-size.search.stocks.list.items marks) (sym c.as_slice.ensures.value) v.marked)

pub loop-size-preserved : goal.loop-size-preserved
loop-size-preserved g c =
    let t = c.args.table.now in
    let v = c.loop-size.invariant in
    let told = c.in_ok-marks-2.ensures in
    let old = c.loop-size.joins.items in
    let new = c.all_marks.new.joins.items in
    let e : c.loop-size.size - 1 + 1 ≡ c.loop-size.size + 1 - 1 = omega (arith, c.loop-size.auto.size) in
    record {
      search_is = subst (λ (n : ℕ). IsSearch t n c.in_ok-search-2.search) e c.in_ok-search-2.ensures.search;
      more = more_trans t c.args.start c.args.joins.now.items old new v.more told.more;
      are = all_more t c.args.start old new told.more v.are;
      marked = told.marks;
    }

pub returns-then-are_all_connected : goal.returns-then-are_all_connected
returns-then-are_all_connected g c =
    let t = c.args.table.now in
    let start = c.args.start in
    let size = c.loop-size.size in
    let v = c.loop-size.invariant in
    let told = c.in_ok-marks-2.ensures in
    let old = c.loop-size.joins.items in
    let new = c.all_marks.new.joins.items in
    let search = c.in_ok-search-2.search in
    let done = c.are_all_connected.ensures c.if-are_all_connected.true in
    let none = subst (λ (marks : List Bool). (i : ℕ) → slice_get marks i ≢ Some true) c.as_slice-in-loop-size.ensures.value done.1 in
    let is = next_size t size search (omega (arith, c.loop-size.auto.size)) c.in_ok-search-2.ensures.search in
    let here = connect_from t size search is start new (each_connected t start new search.stocks.list.items c.in_ok-marks-2.marks.items told.marks none) in
    record {
      more = more_trans t start c.args.joins.now.items old new v.more told.more;
      split = connect_larger t start new size c.args.n done.0 (omega (arith, c.loop-size-test.true)) here;
    }

pub next-requires-2-clause-search : goal.next-requires-2-clause-search
next-requires-2-clause-search g c κs within =
    let e : c.loop-size.size - 1 ≡ c.args.n - 1 = omega (arith, c.loop-size-test.false, c.loop-size.auto.size-end, c.requires.some) in
    subst (λ (n : ℕ). IsSearch c.args.table.now n c.loop-size.search) e c.loop-size.invariant.search_is

pub first_split-requires-clause-search : goal.first_split-requires-clause-search
first_split-requires-clause-search g c = next_size c.args.table.now c.args.n c.in_ok-search-3.search (omega (arith, c.requires.some)) c.in_ok-search-3.ensures.search

pub first_split-requires-clause-marks : goal.first_split-requires-clause-marks
first_split-requires-clause-marks g c =
    let v = c.loop-size.invariant in
    subst (λ (list : List Stock). AreMarked c.args.table.now c.args.start c.loop-size.joins.items list c.as_slice-2.result.now) (sym c.in_ok-search-3.ensures.below)
    (subst (λ (marks : List Bool). AreMarked c.args.table.now c.args.start c.loop-size.joins.items c.loop-size.search.stocks.list.items marks) (sym c.as_slice-2.ensures.value) v.marked)

pub returns : goal.returns
returns g c =
    let t = c.args.table.now in
    let v = c.loop-size.invariant in
    let told = c.in_ok-found.ensures in
    let old = c.loop-size.joins.items in
    let new = c.first_split.new.joins.items in
    let is = next_size t c.args.n c.in_ok-search-3.search (omega (arith, c.requires.some)) c.in_ok-search-3.ensures.search in
    record {
      more = more_trans t c.args.start c.args.joins.now.items old new v.more told.more;
      split = match_weaker _ _ (IsWitnessFor t c.args.n) c.in_ok-found.found (connect_from t c.args.n c.in_ok-search-3.search is c.args.start new) told.split;
    }
