-- The stocks within a stock, block by block.
use Rattle.std.proofs.Common.{◌≡◌, ◌≢◌, ℕ, zero, suc, ◌+◌, ◌-◌, ◌<◌, ◌≤◌, ◌⊎◌, inl, inr, List, [], ◌∷◌, ◌++◌, length, get_or, replicate, refl, sym, ap, ◌∙◌, subst, arith, Option, Some, None, append_assoc, length-append}
use Rattle.std.specs.Prelude.{slice_get, slice_index_or}
use Rattle.std.specs.Option.{option_map}
use Rattle.std.proofs.Math.ListN.{set}
use Rattle.std.proofs.lemmas.Option.{none-some, same_Some, slice_get_within}
use Rattle.cn_table.specs.TypeTable.{TypeTable}
use Rattle.cn_stocks.specs.declared.stocks.Stock.{Stock}
use Rattle.cn_stocks.specs.Stocks.{AreSmallerStocks, HasLess, IsStock, UpTo, items_at}
use Rattle.cn_stocks.specs.Words.{HaveSame, IsKnown, IsWithin, times}
use Rattle.cn_stocks.proofs.Growing.{set_none, set_some, some_items}
use Rattle.cn_stocks.proofs.LastingLemmas.Counts.{length_same, times_other, times_same}
use Rattle.cn_stocks.proofs.StockLemmas.{before_or_behind, get_before, get_behind, greatest_of_child, items_before, items_last, items_of, items_within, length_last, less_of_self, same_items, stock_at}
use Rattle.cn_stocks.proofs.Times.{one_else, same_or, times_append, times_at, times_cons, times_last, times_none}
use Rattle.cn_telling.specs.declared.cells.Block.{Block}
use Rattle.cn_telling.specs.declared.ends.Ends.{Ends}
use Rattle.cn_telling.specs.Asking.{AreCellsOver}
use Rattle.cn_telling.specs.Settings.{AreEndsOf, IsOver}
use Rattle.cn_telling.specs.Cells.{AreCells, IsBelow, IsUnderway, LinksFrom, LinksNext}

-- ---- lists within lists

-- what is left of a list without one occurrence of x
taken_out : (x : ℕ) (list : List ℕ) → 1 ≤ times x list → (rest : List ℕ) × HaveSame list (x ∷ rest) × (length list ≡ suc (length rest))
taken_out x [] l = absurd (omega (arith, l, times_none x))
taken_out x (y ∷ list) l = elim (same_or y x) [
  | inl e ↦ (list, (λ o. ap (λ (z : ℕ). times o (z ∷ list)) e), refl)
  | inr n ↦ (
      let r = taken_out x list (omega (arith, l, times_cons x y list, one_else x y n)) in
      (y ∷ r.0, (λ o. omega (arith, r.1 o, times_cons o y list, times_cons o x r.0, times_cons o x (y ∷ r.0), times_cons o y r.0)), omega (arith, r.2))
      )
]

pub within_long : (whole items : List ℕ) → IsWithin whole items → length items ≤ length whole
within_long whole [] w = omega arith
within_long whole (x ∷ items) w =
    let r = taken_out x whole (omega (arith, w x, times_at x items)) in
    omega (arith, within_long r.0 items (λ o. omega (arith, w o, r.1 o, times_cons o x items, times_cons o x r.0)), r.2)

pub same_more : (x y : ℕ) (items rest : List ℕ) → HaveSame items (y ∷ rest) → HaveSame (items ++ x ∷ []) (y ∷ (rest ++ x ∷ []))
same_more x y items rest same o = omega (arith, same o, times_last o x items, times_cons o y rest, times_cons o y (rest ++ x ∷ []), times_last o x rest)

-- ---- one stock more at the end

pub at_push : {X : Type 0} (xs : List X) (x : X) (i : ℕ) (y : X) → slice_get (xs ++ x ∷ []) i ≡ Some y → ((i < length xs) × (slice_get xs i ≡ Some y)) ⊎ ((i ≡ length xs) × (x ≡ y))
at_push xs x i y e = elim (before_or_behind i (length xs)) [
  | inl l ↦ inl (l, sym (get_before xs (x ∷ []) i l) ∙ e)
  | inr l ↦ (let k = get_behind xs (x ∷ []) i l in inr (last k.0 k.1 (sym k.2 ∙ e)))
]
  where
    last : (k : ℕ) → length xs + k ≡ i → slice_get (x ∷ []) k ≡ Some y → (i ≡ length xs) × (x ≡ y)
    last zero s h = (omega (arith, s), same_Some x y h)
    last (suc k) s h = absurd (none-some y h)

items_push : (xs : List Stock) (s : Stock) (i : ℕ) (items : List ℕ) → items_at (xs ++ s ∷ []) i ≡ Some items → ((i < length xs) × (items_at xs i ≡ Some items)) ⊎ ((i ≡ length xs) × (s.operations.items ≡ items))
items_push xs s i items e =
    let r = stock_at (xs ++ s ∷ []) i items e in
    elim (at_push xs s i r.0 r.1) [
      | inl h ↦ inl (h.0, items_of xs i r.0 h.1 ∙ ap Some r.2)
      | inr h ↦ inr (h.0, ap (λ (x : Stock). x.operations.items) h.1 ∙ r.2)
    ]

stock_more : (n : ℕ) (before more : List Stock) (s : Stock) → IsStock n before s → IsStock n (before ++ more) s
stock_more n before more s is = record {
  known = is.known;
  greatest = is.greatest;
  smaller = record {
    some = λ x j e. (let h = is.smaller.some x j e in (h.0, items_before before more j h.0 h.1, h.2));
    none = is.smaller.none;
  };
}

-- without another operation the next stock stands behind
pub less_of_next : (b : Block) (place : ℕ) (list : List Stock) (s : Stock) (x rest : ℕ) → IsUnderway b place list → slice_get list place ≡ Some s → x ≢ b.operation → slice_index_or s.less x None ≡ Some rest
    → HasLess list (s.operations.items ++ b.operation ∷ []) x (rest + b.size) × (b.first + b.size ≤ rest + b.size) × (rest + b.size < place + b.size)
less_of_next b place list s x rest is at other link =
    let less = (is.linked.stocks place s at).smaller.some x rest link in
    let from : b.first ≤ rest = is.block place s is.from at x rest other link in
    let back : rest < place = is.linked.back place s at x rest link in
    ((less.0 ++ b.operation ∷ [], is.next rest less.0 from back less.1, same_more b.operation x s.operations.items less.0 less.2), omega (arith, from), omega (arith, back))

-- the next stock is put behind the list
pub underway_push : (b : Block) (place : ℕ) (list : List Stock) (s : Stock) → IsUnderway b place list → place < b.first + b.size → IsStock 8 list s
    → ((items : List ℕ) → items_at list place ≡ Some items → s.operations.items ≡ items ++ b.operation ∷ []) → LinksNext b place s.less → IsUnderway b (place + 1) (list ++ s ∷ [])
underway_push b place list s is l stock items_are links = record {
  linked = record {
    stocks = λ i r at. elim (at_push list s i r at) [
      | inl h ↦ stock_more 8 list (s ∷ []) r (is.linked.stocks i r h.1)
      | inr h ↦ stock_more 8 list (s ∷ []) r (subst (IsStock 8 list) h.1 stock)
    ];
    back = λ i r at x j link. elim (at_push list s i r at) [
      | inl h ↦ is.linked.back i r h.1 x j link
      | inr h ↦ (let k = links.1 x j (ap (λ (y : Stock). slice_index_or y.less x None) h.1 ∙ link) in omega (arith, k, h.0, is.long))
    ];
  };
  operation = is.operation;
  up_to = λ i items at. elim (items_push list s i items at) [
    | inl h ↦ is.up_to i items h.1
    | inr h ↦ subst (UpTo b.operation) (sym (items_are here.0 here.1) ∙ h.1) (greatest_of_child b.operation here.0 (is.up_to place here.0 here.1)).up_to
  ];
  from = omega (arith, is.from);
  size = is.size;
  long = omega (arith, length_last list s, is.long);
  block = λ i r from at. elim (at_push list s i r at) [
    | inl h ↦ is.block i r from h.1
    | inr h ↦ subst (λ (y : Stock). LinksFrom b.operation b.first y.less) h.1 (λ x j other link. omega (arith, links.0 x j other link))
  ];
  new = λ i r from at. elim (at_push list s i r at) [
    | inl h ↦ is.new i r from h.1
    | inr h ↦ subst (λ (y : Stock). LinksFrom b.operation (b.first + b.size) y.less) h.1 links.0
  ];
  next = λ i items from before at. elim (before_or_behind i place) [
    | inl u ↦ items_before list (s ∷ []) (i + b.size) (items ++ b.operation ∷ []) (is.next i items from u (old i items (omega (arith, u, is.long)) at))
    | inr u ↦ (
        let e : i ≡ place = omega (arith, u, before) in
        let there : items_at list place ≡ Some items = subst (λ (k : ℕ). items_at list k ≡ Some items) e (old i items (omega (arith, e, is.long, is.size)) at) in
        let k : length list ≡ i + b.size = omega (arith, is.long, e) in
        subst (λ (k : ℕ). items_at (list ++ s ∷ []) k ≡ Some (items ++ b.operation ∷ [])) k (items_last list s ∙ ap Some (items_are items there))
        )
  ];
}
  where
    here : (items : List ℕ) × (items_at list place ≡ Some items)
    here = some_items list place (omega (arith, is.long, is.size))

    old : (i : ℕ) (items : List ℕ) → i < length list → items_at (list ++ s ∷ []) i ≡ Some items → items_at list i ≡ Some items
    old i items inside at = elim (items_push list s i items at) [ inl h ↦ h.1 | inr h ↦ absurd (omega (arith, inside, h.0)) ]

-- ---- one operation, once more

pub underway_first : (b : Block) (whole : List ℕ) (list : List Stock) → AreCells whole list → UpTo b.operation whole → b.operation < 8 → b.first < length list → length list ≡ b.first + b.size
    → ((i : ℕ) (s : Stock) → b.first ≤ i → slice_get list i ≡ Some s → LinksFrom b.operation b.first s.less) → IsUnderway b b.first list
underway_first b whole list are up known inside long block = record {
  linked = are.linked;
  operation = known;
  up_to = λ i items at o l. up o (omega (arith, l, are.within i items at o));
  from = omega arith;
  size = omega (arith, inside, long);
  long = long;
  block = block;
  new = λ i s from at. absurd (omega (arith, from, long, slice_get_within list i s at));
  next = λ i items from before at. absurd (omega (arith, from, before));
}

module _ (b : Block) (whole : List ℕ) (old new : List Stock) (are : AreCells whole old) (is : IsUnderway b (b.first + b.size) new) (long : length old ≡ b.first + b.size) (inside : b.first < length old)
    (kept : (i : ℕ) → i < length old → slice_get new i ≡ slice_get old i) where
  at_old : (i : ℕ) (items : List ℕ) → i < length old → items_at new i ≡ Some items → items_at old i ≡ Some items
  at_old i items l at = sym (ap (option_map (λ (s : Stock). s.operations.items)) (kept i l)) ∙ at

  at_new : (i : ℕ) (items : List ℕ) → i < length old → items_at old i ≡ Some items → items_at new i ≡ Some items
  at_new i items l at = ap (option_map (λ (s : Stock). s.operations.items)) (kept i l) ∙ at

  more_within : (items : List ℕ) → IsWithin whole items → IsWithin (whole ++ b.operation ∷ []) items
  more_within items w o = omega (arith, w o, times_last o b.operation whole)

  next_within : (items : List ℕ) → IsWithin whole items → IsWithin (whole ++ b.operation ∷ []) (items ++ b.operation ∷ [])
  next_within items w o = omega (arith, w o, times_last o b.operation whole, times_last o b.operation items)

  within_next : (i : ℕ) (items : List ℕ) → items_at new i ≡ Some items → IsWithin (whole ++ b.operation ∷ []) items
  within_next i items at = elim (before_or_behind i (length old)) [
    | inl l ↦ more_within items (are.within i items (at_old i items l at))
    | inr l ↦ (
        let below : i < length new = items_within new i items at in
        let k : ℕ = i - b.size in
        let back : k + b.size ≡ i = omega (arith, l, long) in
        let early : k < length old = omega (arith, back, below, is.long, long) in
        let there = some_items new k (omega (arith, back, below)) in
        let next = is.next k there.0 (omega (arith, back, l, long)) (omega (arith, early, long)) there.1 in
        let same : there.0 ++ b.operation ∷ [] ≡ items = same_items new i (there.0 ++ b.operation ∷ []) items (subst (λ (j : ℕ). items_at new j ≡ Some (there.0 ++ b.operation ∷ [])) back next) at in
        subst (IsWithin (whole ++ b.operation ∷ [])) same (next_within there.0 (are.within k there.0 (at_old k there.0 early there.1)))
        )
  ]

  pub cells_next : AreCells (whole ++ b.operation ∷ []) new
  cells_next = record {
    linked = is.linked;
    within = within_next;
    some = omega (arith, is.long, is.size);
    last =
        let k : ℕ = length old - 1 in
        let early : k < length old = omega (arith, inside) in
        let end : k + b.size ≡ length new - 1 = omega (arith, long, is.long, inside) in
        subst (λ (j : ℕ). items_at new j ≡ Some (whole ++ b.operation ∷ [])) end
        (is.next k whole (omega (arith, inside)) (omega (arith, early, long)) (at_new k whole early are.last));
  }

pub replicate_last : (xs : List ℕ) (k x : ℕ) → (xs ++ replicate k x) ++ x ∷ [] ≡ xs ++ replicate (k + 1) x
replicate_last xs k x = append_assoc xs (replicate k x) (x ∷ []) ∙ ap (λ (l : List ℕ). xs ++ l) (one_last k ∙ (let e : suc k ≡ k + 1 = omega arith in ap (λ (n : ℕ). replicate n x) e))
  where
    one_last : (k : ℕ) → replicate k x ++ x ∷ [] ≡ replicate (suc k) x
    one_last zero = refl
    one_last (suc k) = ap (λ (l : List ℕ). x ∷ l) (one_last k)

pub length_more : (xs : List ℕ) (k x : ℕ) → length (xs ++ replicate k x) ≡ length xs + k
length_more xs k x = omega (arith, length-append xs (replicate k x), length_same k x)

pub times_more : (o : ℕ) (xs : List ℕ) (k x : ℕ) → ((o ≡ x) × (times o (xs ++ replicate k x) ≡ times o xs + k)) ⊎ ((o ≢ x) × (times o (xs ++ replicate k x) ≡ times o xs))
times_more o xs k x = elim (same_or o x) [
  | inl e ↦ inl (e, subst (λ (y : ℕ). times y (xs ++ replicate k x) ≡ times y xs + k) (sym e) (omega (arith, times_append x xs (replicate k x), times_same x k)))
  | inr n ↦ inr (n, omega (arith, times_append o xs (replicate k x), times_other o x k (λ e. n (sym e))))
]

pub up_to_more : (operation k : ℕ) (whole : List ℕ) → IsBelow operation whole → UpTo operation (whole ++ replicate k operation)
up_to_more operation k whole below o l = elim (times_more o whole k operation) [
  | inl h ↦ omega (arith, h.0)
  | inr h ↦ (let r = below o (omega (arith, l, h.1)) in omega (arith, r))
]

-- ---- all operations

pub cells_first : (s : Stock) → IsStock 8 [] s → s.operations.items ≡ [] → AreCells [] (s ∷ [])
cells_first s is none = record {
  linked = record { stocks = stocks; back = back };
  within = λ i items at o. (let e = only i items at in omega (arith, ap (times o) e, times_none o));
  some = omega arith;
  last = ap Some none;
}
  where
    only : (i : ℕ) (items : List ℕ) → items_at (s ∷ []) i ≡ Some items → items ≡ []
    only zero items at = sym (same_Some _ _ at) ∙ none
    only (suc i) items at = absurd (none-some items at)

    stocks : (i : ℕ) (r : Stock) → slice_get (s ∷ []) i ≡ Some r → IsStock 8 (s ∷ []) r
    stocks zero r at = subst (IsStock 8 (s ∷ [])) (same_Some s r at) (stock_more 8 [] (s ∷ []) s is)
    stocks (suc i) r at = absurd (none-some r at)

    back : (i : ℕ) (r : Stock) → slice_get (s ∷ []) i ≡ Some r → (x j : ℕ) → slice_index_or r.less x None ≡ Some j → j < i
    back zero r at x j link = (let h = is.smaller.some x j (ap (λ (y : Stock). slice_index_or y.less x None) (same_Some s r at) ∙ link) in absurd (none-some h.0 h.1))
    back (suc i) r at x j link = absurd (none-some r at)

-- with all occurrences of one operation more
pub within_count : (operation : ℕ) (stock whole : List ℕ) → ((o : ℕ) → o < operation → times o whole ≡ times o stock) → ((o : ℕ) → operation ≤ o → times o whole ≡ 0)
    → IsWithin stock (whole ++ replicate (times operation stock) operation)
within_count operation stock whole done none o = elim (times_more o whole (times operation stock) operation) [
  | inl h ↦ (
      let z = none o (omega (arith, h.0)) in
      let e : times o stock ≡ times operation stock = ap (λ (y : ℕ). times y stock) h.0 in
      omega (arith, h.1, z, e)
      )
  | inr h ↦ elim (before_or_behind o operation) [
    | inl l ↦ omega (arith, h.1, done o l)
    | inr l ↦ omega (arith, h.1, none o l)
  ]
]

pub done_more : (operation : ℕ) (stock whole : List ℕ) → ((o : ℕ) → o < operation → times o whole ≡ times o stock) → ((o : ℕ) → operation ≤ o → times o whole ≡ 0)
    → (o : ℕ) → o < operation + 1 → times o (whole ++ replicate (times operation stock) operation) ≡ times o stock
done_more operation stock whole done none o l = elim (times_more o whole (times operation stock) operation) [
  | inl h ↦ (
      let z = none o (omega (arith, h.0)) in
      let e : times o stock ≡ times operation stock = ap (λ (y : ℕ). times y stock) h.0 in
      omega (arith, h.1, z, e)
      )
  | inr h ↦ omega (arith, h.1, done o (omega (arith, l, h.0)))
]

pub none_more : (operation count : ℕ) (whole : List ℕ) → ((o : ℕ) → operation ≤ o → times o whole ≡ 0) → (o : ℕ) → operation + 1 ≤ o → times o (whole ++ replicate count operation) ≡ 0
none_more operation count whole none o l = elim (times_more o whole count operation) [ inl h ↦ absurd (omega (arith, h.0, l)) | inr h ↦ omega (arith, h.1, none o (omega (arith, l))) ]

pub same_all : (k : ℕ) (stock whole : List ℕ) → IsKnown k stock → ((o : ℕ) → o < k → times o whole ≡ times o stock) → ((o : ℕ) → k ≤ o → times o whole ≡ 0) → HaveSame whole stock
same_all k stock whole known done none o = elim (before_or_behind o k) [
  | inl l ↦ done o l
  | inr l ↦ elim (before_or_behind 0 (times o stock)) [ inl some ↦ absurd (omega (arith, l, known o (omega (arith, some)))) | inr z ↦ omega (arith, z, none o l) ]
]

-- the stocks are of operations of the type
pub cells_over : (t : TypeTable) (stock whole : List ℕ) (list : List Stock) → AreCells whole list → HaveSame whole stock → IsKnown (length t.operations) stock → AreCellsOver t list
cells_over t stock whole list are same known = record {
  stocks = λ i s at.
      let is = are.linked.stocks i s at in
      record {
        known = λ o l. known o (omega (arith, l, are.within i s.operations.items (items_of list i s at) o, same o));
        greatest = is.greatest;
        smaller = is.smaller;
      };
  back = are.linked.back;
}

-- the links of a next stock, from those without the other operations
pub links_of_next : (operation : ℕ) (stocks : List Stock) (place : ℕ) (items : List ℕ) (less : List (Option ℕ)) → items_at stocks place ≡ Some items → IsKnown 8 items → operation < length less
    → ((x j : ℕ) → get_or less x None ≡ Some j → HasLess stocks (items ++ operation ∷ []) x j) → ((x : ℕ) → x < 8 → x ≢ operation → get_or less x None ≡ None → times x items ≡ 0)
    → AreSmallerStocks stocks (items ++ operation ∷ []) (set less operation (Some place))
links_of_next operation stocks place items less at known l old none = record {
  some = set_some (HasLess stocks (items ++ operation ∷ [])) less operation place l (less_of_self operation stocks place items at) old;
  none = λ x e.
      let r = set_none less operation place x l e in
      omega (arith, times_last x operation items, one_else x operation (λ s. r.0 (sym s)), absent x r.0 r.1);
}
  where
    absent : (x : ℕ) → x ≢ operation → get_or less x None ≡ None → times x items ≡ 0
    absent x other e = elim (before_or_behind x 8) [
      | inl u ↦ none x u other e
      | inr u ↦ elim (before_or_behind 0 (times x items)) [ inl h ↦ absurd (omega (arith, u, known x (omega (arith, h)))) | inr h ↦ omega (arith, h) ]
    ]

-- ---- what is known beside each stock

-- one more of what stands beside the elements of a list, as far as it goes
pub beside_push : {X Y : Type 0} (R : X → Y → Type 0) (xs : List X) (ys : List Y) (x : X) (y : Y) → slice_get xs (length ys) ≡ Some x → R x y
    → ((j : ℕ) (a : X) (b : Y) → slice_get xs j ≡ Some a → slice_get ys j ≡ Some b → R a b)
    → (j : ℕ) (a : X) (b : Y) → slice_get xs j ≡ Some a → slice_get (ys ++ y ∷ []) j ≡ Some b → R a b
beside_push R xs ys x y at here old j a b at_a at_b = elim (at_push ys y j b at_b) [
  | inl h ↦ old j a b at_a h.1
  | inr h ↦ subst (R a) h.1 (subst (λ z. R z y) (same_Some x a (sym at ∙ (ap (slice_get xs) (sym h.0) ∙ at_a))) here)
]

pub none_appended : (xs : List ℕ) → xs ≡ xs ++ []
none_appended [] = refl
none_appended (x ∷ xs) = ap (λ (l : List ℕ). x ∷ l) (none_appended xs)

pub below_of : (operation : ℕ) (whole : List ℕ) → ((o : ℕ) → operation ≤ o → times o whole ≡ 0) → IsBelow operation whole
below_of operation whole none o l = elim (before_or_behind o operation) [ inl u ↦ u | inr u ↦ absurd (omega (arith, l, none o u)) ]

-- a stock of the list, over those before it
pub over_cells : (t : TypeTable) (cells : List Stock) (ends : List Ends) (i : ℕ) (s : Stock) → AreCellsOver t cells → AreEndsOf t cells ends → i ≤ length ends → slice_get cells i ≡ Some s → IsOver t cells ends s
over_cells t cells ends i s are ends_are l at = record {
  stock_is = are.stocks i s at;
  ends_are = ends_are;
  within = λ x j link. omega (arith, are.back i s at x j link, l);
}
