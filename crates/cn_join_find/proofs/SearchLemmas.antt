-- Joins of all stocks of a search.
use Rattle.std.proofs.Common.{◌≡◌, ◌≢◌, ℕ, zero, suc, ◌+◌, ◌-◌, ◌≤◌, inl, inr, List, [], ◌∷◌, length, get_or, refl, sym, ap, ◌∙◌, subst, arith, Bool, true, false, Some}
use Rattle.std.specs.Prelude.{slice_get}
use Rattle.std.proofs.lemmas.Option.{slice_get-get_or, slice_get_within}
use Rattle.cn_table.specs.TypeTable.{TypeTable}
use Rattle.cn_joins.specs.Joins.{Connect, Join}
use Rattle.cn_stocks.specs.declared.stocks.Stock.{Stock}
use Rattle.cn_stocks.specs.Stocks.{IsStock}
use Rattle.cn_stocks.specs.Words.{HaveSame, times}
use Rattle.cn_stocks.proofs.StockLemmas.{before_or_behind, stock_at}
use Rattle.cn_stocks.proofs.Times.{one_of, times_cons}
use Rattle.cn_telling.specs.Levels.{IsSearch}
use Rattle.cn_telling.specs.Rows.{RowsDiffer}
use Rattle.cn_telling.proofs.RowLemmas.{rows_same}
use Rattle.cn_telling.specs.declared.search.Search.{Search}
use Rattle.cn_join_find.specs.declared.marks.Below.{Below}
use Rattle.cn_join_find.specs.Marks.{AreMarked, ConnectEach, IsAbove}
use Rattle.cn_join_find.specs.Reached.{AreMore, ConnectFrom}
use Rattle.cn_join_find.proofs.MarkLemmas.{connect_two, connect_whole, marks_still, rows_less, shared}
use Rattle.cn_join_find.proofs.ReachLemmas.{connect_same}

-- ---- a stock of a search

module _ (t : TypeTable) (n : ℕ) (search : Search) (is : IsSearch t n search) (start : ℕ) where
  pub above_of : (xs ys : List Join) (marks : List Bool) (b : Below) (i : ℕ) (s : Stock) → AreMore t start xs ys → AreMarked t start xs search.below.stocks.list.items marks
      → b.stocks.now ≡ search.below.stocks.list.items → b.marks.now ≡ marks → slice_get search.stocks.list.items i ≡ Some s → RowsDiffer t s.operations.items → IsAbove t start ys b s
  above_of xs ys marks b i s more marked stocks same at differ = record {
    is_stock = subst (λ (list : List Stock). IsStock (length t.operations) list s) (sym stocks) (is.stocks.stocks i s at);
    marks = subst (λ (list : List Stock). AreMarked t start ys list b.marks.now) (sym stocks)
        (subst (λ (m : List Bool). AreMarked t start ys search.below.stocks.list.items m) (sym same) (marks_still t start xs ys search.below.stocks.list.items marks more marked));
    rows_differ = differ;
  }

  -- the joins connect each list of n operations whose rows differ
  pub connect_from : (joins : List Join) → ConnectEach t start joins search.stocks.list.items → ConnectFrom t n start joins
  connect_from joins each stock known long differ =
      let here = is.stocks.all stock known long in
      let s = stock_at search.stocks.list.items here.0 here.1.0 here.1.1 in
      let connect = subst (λ (items : List ℕ). RowsDiffer t items → Connect joins start items) s.2 (each here.0 s.0 s.1) in
      connect_same joins start here.1.0 stock here.1.2 (connect (rows_same t stock here.1.0 (λ o. sym (here.1.2 o)) differ))

-- where no stock is marked the joins connect each of them whose rows differ
pub each_connected : (t : TypeTable) (start : ℕ) (joins : List Join) (stocks : List Stock) (marks : List Bool) → AreMarked t start joins stocks marks → ((i : ℕ) → slice_get marks i ≢ Some true) → ConnectEach t start joins stocks
each_connected t start joins stocks marks are none i s at differ = by_mark (get_or marks i false) refl
  where
    here : slice_get marks i ≡ Some (get_or marks i false)
    here = slice_get-get_or marks i false (omega (arith, slice_get_within stocks i s at, are.count))

    by_mark : (b : Bool) → get_or marks i false ≡ b → Connect joins start s.operations.items
    by_mark false e = are.connect i s at (here ∙ ap Some e) differ
    by_mark true e = absurd (none i (here ∙ ap Some e))

-- ---- larger stocks

module _ (t : TypeTable) (start : ℕ) (joins : List Join) where
  one_longer : (m : ℕ) → 2 ≤ m → ConnectFrom t m start joins → ConnectFrom t (m + 1) start joins
  one_longer m two c [] known e differ = absurd (omega (arith, e))
  one_longer m two c (x ∷ []) known e differ = absurd (omega (arith, e, two))
  one_longer m two c (x ∷ y ∷ rest) known e differ = elim (before_or_behind 0 (times x (y ∷ rest))) [
    | inl some ↦ connect_whole joins start (x ∷ y ∷ rest) x (y ∷ rest) (λ o. refl) (omega (arith, some)) left
    | inr none ↦ (
        let n : x ≢ y = λ h. absurd (omega (arith, none, times_cons x y rest, one_of x y (sym h))) in
        let other : HaveSame (x ∷ y ∷ rest) (y ∷ x ∷ rest) = λ o. omega
        (arith, times_cons o x (y ∷ rest), times_cons o y rest, times_cons o y (x ∷ rest), times_cons o x rest) in
        connect_two joins start (x ∷ y ∷ rest) x y (y ∷ rest) (x ∷ rest) n (λ o. refl) other (shared x y (x ∷ y ∷ rest) (y ∷ rest) (x ∷ rest) n (λ o. refl) other (omega (arith, e, two))) left
        (c (x ∷ rest) (λ o l. known o (omega (arith, l, other o, times_cons o y (x ∷ rest)))) (omega (arith, e)) (rows_less t y (x ∷ y ∷ rest) (x ∷ rest) other differ))
        )
  ]
    where
      left : Connect joins start (y ∷ rest)
      left = c (y ∷ rest) (λ o l. known o (omega (arith, l, times_cons o x (y ∷ rest)))) (omega (arith, e)) (rows_less t x (x ∷ y ∷ rest) (y ∷ rest) (λ o. refl) differ)

  longer : (m k : ℕ) → 2 ≤ m → ConnectFrom t m start joins → ConnectFrom t (m + k) start joins
  longer m zero two c = let e : m ≡ m + 0 = omega arith in subst (λ (n : ℕ). ConnectFrom t n start joins) e c
  longer m (suc k) two c = let e : m + k + 1 ≡ m + suc k = omega arith in subst (λ (n : ℕ). ConnectFrom t n start joins) e (one_longer (m + k) (omega (arith, two)) (longer m k two c))

  pub connect_larger : (m n : ℕ) → 2 ≤ m → m ≤ n → ConnectFrom t m start joins → ConnectFrom t n start joins
  connect_larger m n two l c = let e : m + (n - m) ≡ n = omega (arith, l) in subst (λ (k : ℕ). ConnectFrom t k start joins) e (longer m (n - m) two c)
