-- How a list of stocks grows.
use Rattle.std.proofs.Common.{◌≡◌, ◌≢◌, ℕ, zero, suc, ◌+◌, ◌<◌, ◌≤◌, inl, inr, List, [], ◌∷◌, ◌++◌, length, get_or, replicate, refl, sym, ap, ◌∙◌, subst, arith, Option, Some, None, get_or-set_other, get_or-set_same}
use Rattle.std.specs.Prelude.{slice_get, slice_index, slice_index_or}
use Rattle.std.proofs.Math.ListN.{set}
use Rattle.std.proofs.lemmas.List.{get_or_append_left}
use Rattle.std.proofs.lemmas.Option.{none-some, same_Some}
use Rattle.cn_stocks.specs.declared.stocks.Stock.{Stock}
use Rattle.cn_stocks.specs.Stocks.{AreChildren, AreSmallerStocks, GoesOn, HasChildren, HasLess, IsGreatest, IsStock, UpTo, items_at}
use Rattle.cn_stocks.specs.Words.{IsKnown, times}
use Rattle.cn_stocks.proofs.Times.{one_else, same_or, times_last}
use Rattle.cn_stocks.proofs.StockLemmas.{before_or_behind, children_more, count_push, get_seam, greatest_of_child, items_before, items_last, items_of, known_of_child, less_of_self, same_items}

-- ---- the smaller stocks of a child

nones_at : (n x : ℕ) → get_or {A = Option ℕ} (replicate n None) x None ≡ None
nones_at zero x = refl
nones_at (suc n) zero = refl
nones_at (suc n) (suc x) = nones_at n x

pub eight_nones : (x : ℕ) → get_or {A = Option ℕ} (None ∷ None ∷ None ∷ None ∷ None ∷ None ∷ None ∷ None ∷ []) x None ≡ None
eight_nones x = nones_at 8 x

-- one place set
pub set_some : (H : ℕ → ℕ → Type 0) (less : List (Option ℕ)) (k v : ℕ) → k < length less → H k v → ((x j : ℕ) → get_or less x None ≡ Some j → H x j)
    → (x j : ℕ) → get_or (set less k (Some v)) x None ≡ Some j → H x j
set_some H less k v l h old x j e = elim (same_or x k) [
  | inl s ↦ (
      let there : get_or (set less k (Some v)) k None ≡ Some j = subst (λ (y : ℕ). get_or (set less k (Some v)) y None ≡ Some j) s e in
      let value : v ≡ j = same_Some v j (sym (get_or-set_same less k (Some v) None l) ∙ there) in
      subst (λ (y : ℕ). H y j) (sym s) (subst (H k) value h)
      )
  | inr n ↦ old x j (sym (get_or-set_other less k x (Some v) None n) ∙ e)
]

pub set_none : (less : List (Option ℕ)) (k v x : ℕ) → k < length less → get_or (set less k (Some v)) x None ≡ None → (x ≢ k) × (get_or less x None ≡ None)
set_none less k v x l e = elim (same_or x k) [
  | inl s ↦ (
      let there : get_or (set less k (Some v)) k None ≡ None = subst (λ (y : ℕ). get_or (set less k (Some v)) y None ≡ None) s e in
      absurd (none-some v (sym there ∙ get_or-set_same less k (Some v) None l))
      )
  | inr n ↦ (n, sym (get_or-set_other less k x (Some v) None n) ∙ e)
]

pub links_of_child : (operations operation : ℕ) (stocks : List Stock) (place : ℕ) (items : List ℕ) (less : List (Option ℕ)) → items_at stocks place ≡ Some items
    → IsKnown operations items → operation < length less
    → ((x j : ℕ) → get_or less x None ≡ Some j → HasLess stocks (items ++ operation ∷ []) x j) → ((x : ℕ) → x < operations → get_or less x None ≡ None → times x items ≡ 0)
    → AreSmallerStocks stocks (items ++ operation ∷ []) (set less operation (Some place))
links_of_child operations operation stocks place items less at known l old none = record {
  some = set_some (HasLess stocks (items ++ operation ∷ [])) less operation place l (less_of_self operation stocks place items at) old;
  none = λ x e.
      let r = set_none less operation place x l e in
      omega (arith, times_last x operation items, one_else x operation (λ s. r.0 (sym s)), absent x r.1);
}
  where
    absent : (x : ℕ) → get_or less x None ≡ None → times x items ≡ 0
    absent x e = elim (before_or_behind x operations) [
      | inl u ↦ none x u e
      | inr u ↦ elim (before_or_behind 0 (times x items)) [ inl h ↦ absurd (omega (arith, u, known x (omega (arith, h)))) | inr h ↦ omega (arith, h) ]
    ]

pub stock_of_child : (operations operation : ℕ) (stocks : List Stock) (child : Stock) (items : List ℕ) → child.operations.items ≡ items ++ operation ∷ []
    → child.greatest ≡ operation → operation < operations → IsKnown operations items
    → UpTo operation items → AreSmallerStocks stocks (items ++ operation ∷ []) child.less → IsStock operations stocks child
stock_of_child operations operation stocks child items e g l known up smaller = record {
  known = subst (λ (list : List ℕ). IsKnown operations list) (sym e) (known_of_child operations operation items l known);
  greatest = record {
    up_to = λ o h. (let r = (greatest_of_child operation items up).up_to o (subst (λ (list : List ℕ). 1 ≤ times o list) e h) in omega (arith, r, g));
    least = λ x h. (let r = (greatest_of_child operation items up).least x (subst (λ (list : List ℕ). UpTo x list) e h) in omega (arith, r, g));
  };
  smaller = subst (λ (list : List ℕ). AreSmallerStocks stocks list child.less) (sym e) smaller;
}

-- ---- the children of a stock

pub some_items : (stocks : List Stock) (i : ℕ) → i < length stocks → (items : List ℕ) × (items_at stocks i ≡ Some items)
some_items [] i l = absurd (omega arith)
some_items (s ∷ stocks) zero l = (s.operations.items, refl)
some_items (s ∷ stocks) (suc i) l = some_items stocks i (omega arith)

pub goes_on_children : (operations : ℕ) (before old new : List Stock) (n : ℕ) (children : List (List ℕ)) → GoesOn old n new → AreChildren operations before old children
    → AreChildren operations before new children
goes_on_children operations before old new n children g are = subst (λ (stocks : List Stock). AreChildren operations before stocks children) (sym g.1)
    (children_more old g.0 before operations children are)

-- no operation is below the greatest and not below any
pub row_first : (stocks new : List Stock) (place : ℕ) (s : Stock) (row : List ℕ) → slice_get stocks place ≡ Some s → IsGreatest s.operations.items s.greatest
    → HasChildren stocks new place s.greatest row
row_first stocks new place s row here is items at x u up =
    let same = same_items stocks place items s.operations.items at (items_of stocks place s here) in
    let least = is.least x (subst (λ (list : List ℕ). UpTo x list) same up) in
    absurd (omega (arith, u, least))

pub row_push : (before stocks new : List Stock) (place operation : ℕ) (row : List ℕ) (child : Stock) (len : ℕ) → new ≡ stocks ++ child ∷ [] → len ≡ length stocks → operation < length row
    → ((items : List ℕ) → items_at before place ≡ Some items → child.operations.items ≡ items ++ operation ∷ []) → HasChildren before stocks place operation row
    → HasChildren before new place (operation + 1) (set row operation len)
row_push before stocks new place operation row child len e count long is old items at x u up =
    subst (λ (all : List Stock). items_at all (slice_index (set row operation len) x) ≡ Some (items ++ x ∷ [])) (sym e) (elim (same_or x operation) [
      | inl s ↦ (
          let index : get_or (set row operation len) x 0 ≡ length stocks = ap (λ (y : ℕ). get_or (set row operation len) y 0) s ∙ (get_or-set_same row operation len 0 long ∙ count) in
          subst (λ (i : ℕ). items_at (stocks ++ child ∷ []) i ≡ Some (items ++ x ∷ [])) (sym index)
          (items_last stocks child ∙ ap Some (is items at ∙ ap (λ (y : ℕ). items ++ y ∷ []) (sym s)))
          )
      | inr n ↦ (
          let index : get_or (set row operation len) x 0 ≡ get_or row x 0 = get_or-set_other row operation x len 0 n in
          subst (λ (i : ℕ). items_at (stocks ++ child ∷ []) i ≡ Some (items ++ x ∷ [])) (sym index)
          (items_before stocks (child ∷ []) (slice_index row x) (items ++ x ∷ []) (old items at x (omega arith) up))
          )
    ])

pub children_push : (operations : ℕ) (before stocks : List Stock) (children new : List (List ℕ)) (row : List ℕ) (place : ℕ) → new ≡ children ++ row ∷ [] → length children ≡ place
    → AreChildren operations before stocks children
    → HasChildren before stocks place operations row → AreChildren operations before stocks new
children_push operations before stocks children new row place e count old is i l =
    subst (λ (all : List (List ℕ)). HasChildren before stocks i operations (slice_index_or all i [])) (sym e) (elim (before_or_behind i (length children)) [
      | inl u ↦ subst (λ (r : List ℕ). HasChildren before stocks i operations r) (sym (get_or_append_left children (row ∷ []) [] i u)) (old i u)
      | inr u ↦ (
          let same : length children ≡ i = omega (arith, l, u, count_push children new row place e count, count) in
          let at : place ≡ i = sym count ∙ same in
          subst (λ (k : ℕ). HasChildren before stocks k operations (slice_index_or (children ++ row ∷ []) i [])) at
          (subst (λ (k : ℕ). HasChildren before stocks place operations (slice_index_or (children ++ row ∷ []) k [])) same
          (subst (λ (r : List ℕ). HasChildren before stocks place operations r) (sym (get_seam children row [])) is))
          )
    ])
