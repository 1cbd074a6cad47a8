-- Smaller stocks connect larger ones.
use Rattle.std.proofs.Common.{◌≡◌, ◌≢◌, ℕ, ◌≤◌, inl, inr, List, [], ◌∷◌, ◌++◌, length, sym, ap, ◌∙◌, subst, arith, Bool, false, Some}
use Rattle.std.specs.Prelude.{slice_get}
use Rattle.std.proofs.lemmas.Option.{same_Some}
use Rattle.cn_joins.specs.Joins.{Connect, Join, KeepsApart}
use Rattle.cn_stocks.specs.declared.stocks.Stock.{Stock}
use Rattle.cn_stocks.specs.Words.{HaveSame, IsWithin, times}
use Rattle.cn_stocks.proofs.Fewer.{beside}
use Rattle.cn_stocks.proofs.Times.{one_at, one_else, one_of, same_has, same_or, times_cons}
use Rattle.cn_telling.specs.Rows.{RowsDiffer}
use Rattle.cn_telling.proofs.CellLemmas.{at_push}
use Rattle.cn_table.specs.TypeTable.{TypeTable}
use Rattle.cn_join_find.specs.Marks.{AreMarked}
use Rattle.cn_join_find.specs.Reached.{AreMore}
use Rattle.cn_join_find.proofs.ReachLemmas.{still_connect}

-- ---- joins within smaller stocks

within_more : (x : ℕ) (stock rest word : List ℕ) → HaveSame stock (x ∷ rest) → IsWithin rest word → IsWithin stock word
within_more x stock rest word s w o = omega (arith, s o, w o, times_cons o x rest)

module _ (joins : List Join) (start : ℕ) (stock : List ℕ) where
  keeps_less : (chosen : ℕ → Bool) (x : ℕ) (rest : List ℕ) → HaveSame stock (x ∷ rest) → KeepsApart chosen joins start stock → KeepsApart chosen joins start rest
  keeps_less chosen x rest same keeps join has within = keeps join has (record {
    same_start = within.same_start;
    first = within_more x stock rest join.first.word same within.first;
    second = within_more x stock rest join.second.word same within.second;
  })

  -- all operations of the stock stand in what is left
  pub connect_whole : (x : ℕ) (rest : List ℕ) → HaveSame stock (x ∷ rest) → 1 ≤ times x rest → Connect joins start rest → Connect joins start stock
  connect_whole x rest same twice c chosen keeps f g l u = c chosen (keeps_less chosen x rest same keeps) f g (still f l) (still g u)
    where
      still : (f : ℕ) → 1 ≤ times f stock → 1 ≤ times f rest
      still f l = elim (same_or x f) [
        | inl e ↦ subst (λ (y : ℕ). 1 ≤ times y rest) e twice
        | inr n ↦ omega (arith, l, same f, times_cons f x rest, one_else f x n)
      ]

  -- two that share an operation
  pub connect_two : (x y : ℕ) (us vs : List ℕ) → x ≢ y → HaveSame stock (x ∷ us) → HaveSame stock (y ∷ vs) → (z : ℕ) × (1 ≤ times z us) × (1 ≤ times z vs)
      → Connect joins start us → Connect joins start vs → Connect joins start stock
  connect_two x y us vs n same other z c d chosen keeps f g l u = with_z f l ∙ sym (with_z g u)
    where
      with_z : (f : ℕ) → 1 ≤ times f stock → chosen f ≡ chosen z.0
      with_z f l = elim (same_or x f) [
        | inl e ↦ d chosen (keeps_less chosen y vs other keeps) f z.0 (omega (arith, l, other f, times_cons f y vs, one_else f y (λ h. n (e ∙ sym h)))) z.2
        | inr m ↦ c chosen (keeps_less chosen x us same keeps) f z.0 (omega (arith, l, same f, times_cons f x us, one_else f x m)) z.1
      ]

-- what is left without one x and what is left without one y share an operation of three
pub shared : (x y : ℕ) (stock us vs : List ℕ) → x ≢ y → HaveSame stock (x ∷ us) → HaveSame stock (y ∷ vs) → 3 ≤ length stock → (z : ℕ) × (1 ≤ times z us) × (1 ≤ times z vs)
shared x y stock us vs n same other three =
    let r = beside x y stock three (same_has x stock us same) (same_has y stock vs other) n in
    (r.1.0, stays x us r.0 r.1.0 same r.1.1 r.3, stays y vs r.0 r.1.0 other r.1.1 r.4)
  where
    -- one more operation is there without the one that is left out
    stays : (x : ℕ) (xs rest : List ℕ) (z : ℕ) → HaveSame stock (x ∷ xs) → HaveSame stock (z ∷ rest) → 1 ≤ times x rest → 1 ≤ times z xs
    stays x xs rest z same here l = elim (same_or x z) [
      | inl e ↦ (
          let k : 1 ≤ times z rest = subst (λ (o : ℕ). 1 ≤ times o rest) e l in
          omega (arith, k, same z, here z, times_cons z x xs, times_cons z z rest, one_at z, one_of z x e)
          )
      | inr m ↦ omega (arith, same z, here z, times_cons z x xs, times_cons z z rest, one_at z, one_else z x m)
    ]

-- ---- the rows of stocks

-- those of what is left of a stock differ too
pub rows_less : (t : TypeTable) (x : ℕ) (stock rest : List ℕ) → HaveSame stock (x ∷ rest) → RowsDiffer t stock → RowsDiffer t rest
rows_less t x stock rest same differ o has early = differ o (stays o has) (early.0, early.1, stays early.0 early.2, early.3)
  where
    stays : (o : ℕ) → 1 ≤ times o rest → 1 ≤ times o stock
    stays o l = omega (arith, l, same o, times_cons o x rest)

-- ---- marks

-- the marks of the first stocks
pub record AreMarkedFirst (t : TypeTable) (start : ℕ) (joins : List Join) (stocks : List Stock) (marks : List Bool) : Type 0 where
  pub connect : (i : ℕ) (s : Stock) → slice_get stocks i ≡ Some s → slice_get marks i ≡ Some false → RowsDiffer t s.operations.items → Connect joins start s.operations.items

module _ (t : TypeTable) (start : ℕ) where
  pub marks_more : (xs ys : List Join) (stocks : List Stock) (marks : List Bool) → AreMore t start xs ys → AreMarkedFirst t start xs stocks marks → AreMarkedFirst t start ys stocks marks
  marks_more xs ys stocks marks more o = record { connect = λ i s at mark differ. still_connect t start xs ys s.operations.items more (o.connect i s at mark differ) }

  pub marks_still : (xs ys : List Join) (stocks : List Stock) (marks : List Bool) → AreMore t start xs ys → AreMarked t start xs stocks marks → AreMarked t start ys stocks marks
  marks_still xs ys stocks marks more o = record { count = o.count; connect = λ i s at mark differ. still_connect t start xs ys s.operations.items more (o.connect i s at mark differ) }

  pub marks_push : (joins : List Join) (stocks : List Stock) (marks new : List Bool) (stock : Stock) (mark : Bool) → new ≡ marks ++ mark ∷ [] → slice_get stocks (length marks) ≡ Some stock
      → (mark ≡ false → RowsDiffer t stock.operations.items → Connect joins start stock.operations.items) → AreMarkedFirst t start joins stocks marks → AreMarkedFirst t start joins stocks new
  marks_push joins stocks marks new stock mark e at here o = record {
    connect = λ i s at_s told. elim (at_push marks mark i false (subst (λ (l : List Bool). slice_get l i ≡ Some false) e told)) [
      | inl h ↦ o.connect i s at_s h.1
      | inr h ↦ subst (λ (x : Stock). RowsDiffer t x.operations.items → Connect joins start x.operations.items) (same_Some stock s (sym at ∙ (ap (slice_get stocks) (sym h.0) ∙ at_s))) (here h.1)
    ];
  }
