-- What a search knows of a table, it knows of every table with the same next states.
use Rattle.std.proofs.Common.{◌≡◌, ℕ, ◌+◌, ◌<◌, List, [], ◌∷◌, length, refl, sym, ap, ◌∙◌, subst, Option, Some, None}
use Rattle.std.specs.Prelude.{IsBitSet}
use Rattle.std.specs.List.{AllZip}
use Rattle.cn_table.specs.TypeTable.{TypeTable, transition}
use Rattle.cn_table.specs.Run.{state_after}
use Rattle.cn_stocks.specs.declared.stocks.Stock.{Stock}
use Rattle.cn_stocks.specs.Reach.{AreEnds, EndsWithin}
use Rattle.cn_stocks.specs.Stocks.{AreAll}
use Rattle.cn_stocks.specs.Words.{EndsIn, IsKnown}
use Rattle.cn_telling.specs.declared.ends.Ends.{Ends}
use Rattle.cn_telling.specs.declared.exact.LastSearch.{LastSearch}
use Rattle.cn_telling.specs.declared.levels.Level.{Level}
use Rattle.cn_telling.specs.declared.search.Search.{Search}
use Rattle.cn_telling.specs.LastSearches.{HaveSameNexts, IsLastSearch}
use Rattle.cn_telling.specs.Levels.{AreAllEnds, AreAllStarts, AreStarts, IsLevel, IsSearch}
use Rattle.cn_telling.specs.Telling.{SomeTells, Tells}

each_zip : {X Y : Type 0} (R S : X → Y → Type 0) → ((x : X) (y : Y) → R x y → S x y) → (xs : List X) (ys : List Y) → AllZip R xs ys → AllZip S xs ys
each_zip R S f [] [] h = tt
each_zip R S f [] (y ∷ ys) h = absurd h
each_zip R S f (x ∷ xs) [] h = absurd h
each_zip R S f (x ∷ xs) (y ∷ ys) h = (f x y h.0, each_zip R S f xs ys h.1)

turned : (t u : TypeTable) → HaveSameNexts t u → HaveSameNexts u t
turned t u h = record {
  states = sym h.states;
  operations = sym h.operations;
  nexts = λ o q. sym (h.nexts o q);
}

-- ---- words

after_same : (t u : TypeTable) → HaveSameNexts t u → (q : ℕ) (word : List ℕ) → state_after t q word ≡ state_after u q word
after_same t u h q [] = refl
after_same t u h q (o ∷ os) = after_same t u h (transition t o q).1 os ∙ ap (λ (s : ℕ). state_after u s os) (h.nexts o q)

ends_in : (t u : TypeTable) → HaveSameNexts t u → (start : ℕ) (stock : List ℕ) (f q : ℕ) → EndsIn t start stock f q → EndsIn u start stock f q
ends_in t u h start stock f q e = (e.0, e.1, sym (after_same t u h start (f ∷ e.0)) ∙ e.2)

ends_within : (t u : TypeTable) → HaveSameNexts t u → (start : ℕ) (stock : List ℕ) (q : ℕ) → EndsWithin t start stock q → EndsWithin u start stock q
ends_within t u h start stock q e = (e.0, e.1, sym (after_same t u h start e.0) ∙ e.2)

-- ---- stocks

tells : (t u : TypeTable) → HaveSameNexts t u → (q : ℕ) (stock : List ℕ) → Tells t q stock → Tells u q stock
tells t u h q stock x =
    let back = turned t u h in
    record {
      chosen = x.chosen;
      inside = x.inside;
      outside = x.outside;
      apart = λ f g s inside outside a b. x.apart f g s inside outside (ends_in u t back q stock f s a) (ends_in u t back q stock g s b);
    }

some_tells : (t u : TypeTable) → HaveSameNexts t u → (n : ℕ) → SomeTells t n → SomeTells u n
some_tells t u h n s =
    let (start, inside, from) = s in
    let (stock, known, long, told) = from in
    (start, subst (λ k. start < k) h.states inside, (stock, subst (λ k. IsKnown k stock) h.operations known, long, tells t u h start stock told))

starts : (t u : TypeTable) → HaveSameNexts t u → (stock : List ℕ) (set : ℕ) → AreStarts t stock set → AreStarts u stock set
starts t u h stock set are q =
    let back = turned t u h in (
      λ b. let x = (are q).0 b in (subst (λ k. q < k) h.states x.0, tells t u h q stock x.1),
      λ x. (are q).1 (subst (λ k. q < k) back.states x.0, tells u t back q stock x.1),
    )

ends : (t u : TypeTable) → HaveSameNexts t u → (stock : List ℕ) (set : List ℕ) → AreEnds t stock (length t.states) set → AreEnds u stock (length u.states) set
ends t u h stock set are start inside q =
    let back = turned t u h in
    let own = are start (subst (λ k. start < k) back.states inside) q in
    (λ b. ends_within t u h start stock q (own.0 b), λ x. own.1 (ends_within u t back start stock q x))

all_starts : (t u : TypeTable) → HaveSameNexts t u → (stocks : List Stock) (sets : List ℕ) → AreAllStarts t stocks sets → AreAllStarts u stocks sets
all_starts t u h = each_zip (λ stock set. AreStarts t stock.operations.items set) (λ stock set. AreStarts u stock.operations.items set) (λ stock set. starts t u h stock.operations.items set)

all_ends : (t u : TypeTable) → HaveSameNexts t u → (stocks : List Stock) (sets : List Ends) → AreAllEnds t stocks sets → AreAllEnds u stocks sets
all_ends t u h =
    each_zip (λ stock set. AreEnds t stock.operations.items (length t.states) set.states) (λ stock set. AreEnds u stock.operations.items (length u.states) set.states)
    (λ stock set. ends t u h stock.operations.items set.states)

-- ---- searches

level : (t u : TypeTable) → HaveSameNexts t u → (x : Level) → IsLevel t x → IsLevel u x
level t u h x is = record {
  starts = all_starts t u h x.stocks.list.items x.starts.items is.starts;
  ends = all_ends t u h x.stocks.list.items x.ends.items is.ends;
}

search : (t u : TypeTable) → HaveSameNexts t u → (n : ℕ) (s : Search) → IsSearch t n s → IsSearch u n s
search t u h n s is = record {
  below = level t u h s.below is.below;
  stocks = subst (λ k. AreAll k n s.below.stocks.list.items s.stocks) h.operations is.stocks;
  starts = all_starts t u h s.stocks.list.items s.starts.items is.starts;
}

pub last_serves : (t u : TypeTable) (most : ℕ) (last : Option LastSearch) → HaveSameNexts t u → IsLastSearch t most last → IsLastSearch u most last
last_serves t u most None h is = some_tells t u h most is
last_serves t u most (Some last) h is = record {
  some = is.some;
  few = is.few;
  search_is = search t u h (last.n + 1) last.search is.search_is;
  tells = λ l. some_tells t u h last.n (is.tells l);
  none = λ s. is.none (some_tells u t (turned t u h) (last.n + 1) s);
}
