-- Stocks, and where they stand.
use Rattle.std.proofs.Common.{◌≡◌, ◌≢◌, ℕ, zero, suc, ◌+◌, ◌<◌, ◌≤◌, ◌⊎◌, inl, inr, ◌↔◌, List, [], ◌∷◌, ◌++◌, length, get_or, refl, sym, ap, ◌∙◌, subst, arith, Bool, true≢false, IsTrue, Option, Some, None, is_some, append_assoc}
use Rattle.std.specs.Prelude.{slice_get, slice_index, slice_index_or}
use Rattle.std.specs.Option.{option_map}
use Rattle.std.proofs.lemmas.Option.{none-some, same_Some, slice_get_read, slice_get_within}
use Rattle.cn_stocks.specs.declared.stocks.Stock.{Stock}
use Rattle.cn_stocks.specs.Stocks.{AreChildren, AreSmallerStocks, AreLong, AreStocks, GoesOn, HasLess, HaveAll, IsGreatest, IsStock, UpTo, items_at}
use Rattle.cn_stocks.specs.Words.{HaveSame, IsKnown, times}
use Rattle.cn_stocks.proofs.Times.{one, one_at, one_some, same_has, same_or, times_at, times_cons, times_last, times_none}

-- ---- smaller stocks

pub by_option : {A : Type 0} (o : Option A) → (o ≡ None) ⊎ ((x : A) × (o ≡ Some x))
by_option None = inl refl
by_option (Some x) = inr (x, refl)

module _ (before : List Stock) (items : List ℕ) (less : List (Option ℕ)) (smaller : AreSmallerStocks before items less) where
  pub removal_of : (x : ℕ) → 1 ≤ times x items → (rest : List ℕ) × HaveSame items (x ∷ rest)
  removal_of x l = elim (by_option (slice_index_or less x None)) [
    | inl e ↦ absurd (omega (arith, l, smaller.none x e))
    | inr j ↦ (let h = smaller.some x j.0 j.1 in (h.0, h.2))
  ]

  pub has_iff : (x : ℕ) (b : Bool) → b ≡ is_some (slice_index_or less x None) → IsTrue b ↔ (1 ≤ times x items)
  has_iff x b e = elim (by_option (slice_index_or less x None)) [
    | inl n ↦ (λ t. absurd (true≢false (sym t ∙ (e ∙ ap is_some n))), λ l. absurd (omega (arith, l, smaller.none x n)))
    | inr j ↦ (λ t. (let h = smaller.some x j.0 j.1 in same_has x items h.0 h.2), λ l. e ∙ ap is_some j.1)
  ]

  -- where no place is known the operation does not stand in the list
  pub no_less : (x : ℕ) → ((j : ℕ) → slice_index_or less x None ≡ Some j → ⊥) → times x items ≡ 0
  no_less x n = elim (by_option (slice_index_or less x None)) [ inl e ↦ smaller.none x e | inr j ↦ absurd (n j.0 j.1) ]

-- ---- places

items_of_option : (o : Option Stock) (items : List ℕ) → option_map (λ s. s.operations.items) o ≡ Some items → (s : Stock) × (o ≡ Some s) × (s.operations.items ≡ items)
items_of_option None items e = absurd (none-some items e)
items_of_option (Some s) items e = (s, refl, same_Some _ _ e)

pub stock_at : (stocks : List Stock) (i : ℕ) (items : List ℕ) → items_at stocks i ≡ Some items → (s : Stock) × (slice_get stocks i ≡ Some s) × (s.operations.items ≡ items)
stock_at stocks i items e = items_of_option (slice_get stocks i) items e

pub items_within : (stocks : List Stock) (i : ℕ) (items : List ℕ) → items_at stocks i ≡ Some items → i < length stocks
items_within stocks i items e = let s = stock_at stocks i items e in slice_get_within stocks i s.0 s.1

pub items_of : (stocks : List Stock) (i : ℕ) (s : Stock) → slice_get stocks i ≡ Some s → items_at stocks i ≡ Some s.operations.items
items_of stocks i s e = ap (option_map (λ (s : Stock). s.operations.items)) e

pub same_items : (stocks : List Stock) (i : ℕ) (a b : List ℕ) → items_at stocks i ≡ Some a → items_at stocks i ≡ Some b → a ≡ b
same_items stocks i a b e f = same_Some a b (sym e ∙ f)

pub get_before : {X : Type 0} (xs ys : List X) (i : ℕ) → i < length xs → slice_get (xs ++ ys) i ≡ slice_get xs i
get_before [] ys i l = absurd (omega arith)
get_before (x ∷ xs) ys zero l = refl
get_before (x ∷ xs) ys (suc i) l = get_before xs ys i (omega arith)

pub get_behind : {X : Type 0} (xs ys : List X) (i : ℕ) → length xs ≤ i → (k : ℕ) × (length xs + k ≡ i) × (slice_get (xs ++ ys) i ≡ slice_get ys k)
get_behind [] ys i l = (i, omega arith, refl)
get_behind (x ∷ xs) ys zero l = absurd (omega arith)
get_behind (x ∷ xs) ys (suc i) l = let r = get_behind xs ys i (omega arith) in (r.0, omega (arith, r.1), r.2)

pub before_or_behind : (i n : ℕ) → (i < n) ⊎ (n ≤ i)
before_or_behind i zero = inr (omega arith)
before_or_behind zero (suc n) = inl (omega arith)
before_or_behind (suc i) (suc n) = elim (before_or_behind i n) [ inl l ↦ inl (omega arith) | inr l ↦ inr (omega arith) ]

pub items_before : (old more : List Stock) (i : ℕ) (items : List ℕ) → items_at old i ≡ Some items → items_at (old ++ more) i ≡ Some items
items_before old more i items e = ap (option_map (λ (s : Stock). s.operations.items)) (get_before old more i (items_within old i items e)) ∙ e

-- ---- a longer list of stocks

pub children_more : (old more before : List Stock) (operations : ℕ) (children : List (List ℕ)) → AreChildren operations before old children → AreChildren operations before (old ++ more) children
children_more old more before operations children are i l items at x u up = items_before old more (slice_index (slice_index_or children i []) x) (items ++ x ∷ []) (are i l items at x u up)

-- one stock more at the end
pub stocks_push : (operations : ℕ) (before stocks : List Stock) (s : Stock) → AreStocks operations before stocks → IsStock operations before s → AreStocks operations before (stocks ++ s ∷ [])
stocks_push operations before stocks s are is i r e = elim (before_or_behind i (length stocks)) [
  | inl l ↦ are i r (sym (get_before stocks (s ∷ []) i l) ∙ e)
  | inr l ↦ (let k = get_behind stocks (s ∷ []) i l in last k.0 (sym k.2 ∙ e))
]
  where
    last : (k : ℕ) → slice_get (s ∷ []) k ≡ Some r → IsStock operations before r
    last zero e = subst (λ (x : Stock). IsStock operations before x) (same_Some s r e) is
    last (suc k) e = absurd (none-some r e)

pub items_last : (stocks : List Stock) (s : Stock) → items_at (stocks ++ s ∷ []) (length stocks) ≡ Some s.operations.items
items_last [] s = refl
items_last (x ∷ stocks) s = items_last stocks s

pub goes_on_push : (old new : List Stock) (n : ℕ) (s : Stock) → GoesOn old n new → length s.operations.items ≡ n → GoesOn old n (new ++ s ∷ [])
goes_on_push old new n s g e = (g.0 ++ s ∷ [], ap (λ (l : List Stock). l ++ s ∷ []) g.1 ∙ append_assoc old g.0 (s ∷ []), long g.0 g.2)
  where
    long : (more : List Stock) → AreLong more n → AreLong (more ++ s ∷ []) n
    long more a i items at = elim (before_or_behind i (length more)) [
      | inl u ↦ a i items (sym (ap (option_map (λ (s : Stock). s.operations.items)) (get_before more (s ∷ []) i u)) ∙ at)
      | inr u ↦ (let k = get_behind more (s ∷ []) i u in last k.0 (sym (ap (option_map (λ (s : Stock). s.operations.items)) k.2) ∙ at))
    ]
      where
        last : (k : ℕ) → items_at (s ∷ []) k ≡ Some items → length items ≡ n
        last zero at = ap length (sym (same_Some _ _ at)) ∙ e
        last (suc k) at = absurd (none-some items at)

pub goes_on_trans : (old middle new : List Stock) (n : ℕ) → GoesOn old n middle → GoesOn middle n new → GoesOn old n new
goes_on_trans old middle new n g h = (
  g.0 ++ h.0,
  h.1 ∙ (ap (λ (l : List Stock). l ++ h.0) g.1 ∙ append_assoc old g.0 h.0),
  λ i items at. elim (before_or_behind i (length g.0)) [
    | inl u ↦ g.2 i items (sym (ap (option_map (λ (s : Stock). s.operations.items)) (get_before g.0 h.0 i u)) ∙ at)
    | inr u ↦ (let k = get_behind g.0 h.0 i u in h.2 k.0 items (sym (ap (option_map (λ (s : Stock). s.operations.items)) k.2) ∙ at))
  ],
)

pub goes_on_none : (old : List Stock) (n : ℕ) → GoesOn old n old
goes_on_none old n = ([], sym (append_none old), λ i items at. absurd (none-some items at))
  where
    append_none : (xs : List Stock) → xs ++ [] ≡ xs
    append_none [] = refl
    append_none (x ∷ xs) = ap (λ (l : List Stock). x ∷ l) (append_none xs)

-- ---- one operation more

up_to_rest : (x y : ℕ) (items rest : List ℕ) → HaveSame items (y ∷ rest) → UpTo x items → UpTo x rest
up_to_rest x y items rest same up o l = up o (omega (arith, same o, l, times_cons o y rest))

same_more : (x y : ℕ) (items rest : List ℕ) → HaveSame items (y ∷ rest) → HaveSame (items ++ x ∷ []) (y ∷ rest ++ x ∷ [])
same_more x y items rest same o = omega (arith, same o, times_last o x items, times_cons o y rest, times_cons o y (rest ++ x ∷ []), times_last o x rest)

-- a stock of which a stock has one more has a child
pub less_of_child : (operations operation : ℕ) (before stocks : List Stock) (children : List (List ℕ)) (items : List ℕ) (other j : ℕ)
    → AreChildren operations before stocks children → length children ≡ length before → operation < operations
    → UpTo operation items → HasLess before items other j → HasLess stocks (items ++ operation ∷ []) other (slice_index (slice_index_or children j []) operation)
less_of_child operations operation before stocks children items other j are count known up h =
    let rest = h.0 in
    let at = are j (omega (arith, items_within before j rest h.1, count)) rest h.1 operation known (up_to_rest operation other items rest h.2 up) in
    (rest ++ operation ∷ [], at, same_more operation other items rest h.2)

pub less_of_self : (operation : ℕ) (stocks : List Stock) (place : ℕ) (items : List ℕ) → items_at stocks place ≡ Some items → HasLess stocks (items ++ operation ∷ []) operation place
less_of_self operation stocks place items at = (items, at, λ o. omega (arith, times_last o operation items, times_cons o operation items))

pub greatest_of_child : (operation : ℕ) (items : List ℕ) → UpTo operation items → IsGreatest (items ++ operation ∷ []) operation
greatest_of_child operation items up = record {
  up_to = λ o l. elim (same_or operation o) [
    | inl e ↦ omega (arith, e)
    | inr n ↦ up o (omega (arith, l, times_last o operation items, else_none o n))
  ];
  least = λ x h. h operation (omega (arith, times_last operation operation items, one_at operation));
}
  where
    else_none : (o : ℕ) → operation ≢ o → one o operation ≡ 0
    else_none o n = elim (before_or_behind 0 (one o operation)) [ inl l ↦ absurd (n (one_some o operation (omega (arith, l)))) | inr l ↦ omega (arith, l) ]

pub known_of_child : (operations operation : ℕ) (items : List ℕ) → operation < operations → IsKnown operations items → IsKnown operations (items ++ operation ∷ [])
known_of_child operations operation items l known o h = elim (before_or_behind 0 (times o items)) [
  | inl u ↦ known o (omega (arith, u))
  | inr u ↦ subst (λ (x : ℕ). x < operations) (one_some o operation (omega (arith, h, u, times_last o operation items))) l
]

-- ---- all lists of one length

pub record Greatest (list : List ℕ) : Type 0 where
  pub x : ℕ
  pub rest : List ℕ
  pub same : HaveSame list (x ∷ rest)
  pub long : length list ≡ suc (length rest)
  pub up_to : UpTo x rest

swap : (x y : ℕ) (rest list : List ℕ) → HaveSame list (y ∷ rest) → HaveSame (x ∷ list) (y ∷ x ∷ rest)
swap x y rest list same o = omega (arith, same o, times_cons o x list, times_cons o y rest, times_cons o y (x ∷ rest), times_cons o x rest)

greatest_of : (x : ℕ) (list : List ℕ) → Greatest (x ∷ list)
greatest_of x [] = record { x = x; rest = []; same = λ o. refl; long = refl; up_to = λ o l. absurd (omega (arith, l, times_none o)) }
greatest_of x (y ∷ list) = by_order (greatest_of y list)
  where
    by_order : Greatest (y ∷ list) → Greatest (x ∷ y ∷ list)
    by_order g = elim (before_or_behind g.x x) [
      | inl l ↦ record {
        x = x;
        rest = y ∷ list;
        same = λ o. refl;
        long = refl;
        up_to = λ o h. elim (same_or g.x o) [
          | inl e ↦ omega (arith, e, l)
          | inr n ↦ (let r = g.up_to o (omega (arith, h, g.same o, times_cons o g.x g.rest, other o n)) in omega (arith, r, l))
        ];
      }
      | inr l ↦ record {
        x = g.x;
        rest = x ∷ g.rest;
        same = swap x g.x g.rest (y ∷ list) g.same;
        long = omega (arith, g.long);
        up_to = λ o h. elim (same_or x o) [
          | inl e ↦ omega (arith, e, l)
          | inr n ↦ g.up_to o (omega (arith, h, times_cons o x g.rest, none o n))
        ];
      }
    ]
      where
        other : (o : ℕ) → g.x ≢ o → one o g.x ≡ 0
        other o n = elim (before_or_behind 0 (one o g.x)) [ inl u ↦ absurd (n (one_some o g.x (omega (arith, u)))) | inr u ↦ omega (arith, u) ]

        none : (o : ℕ) → x ≢ o → one o x ≡ 0
        none o n = elim (before_or_behind 0 (one o x)) [ inl u ↦ absurd (n (one_some o x (omega (arith, u)))) | inr u ↦ omega (arith, u) ]

-- where each list of n operations stands, and each stock there has its children, each list of one operation more stands
pub all_longer : (operations n : ℕ) (old new : List Stock) (children : List (List ℕ)) → HaveAll operations n old → length children ≡ length old
    → AreChildren operations old new children → HaveAll operations (n + 1) new
all_longer operations n old new children all count are [] known e = absurd (omega (arith, e))
all_longer operations n old new children all count are (y ∷ list) known e =
    let g = greatest_of y list in
    let rest_known : IsKnown operations g.rest = λ o l. known o (omega (arith, g.same o, l, times_cons o g.x g.rest)) in
    let here = all g.rest rest_known (omega (arith, e, g.long)) in
    let items = here.1.0 in
    let same : HaveSame items g.rest = here.1.2 in
    let below : g.x < operations = known g.x (omega (arith, g.same g.x, times_at g.x g.rest)) in
    let up : UpTo g.x items = λ o l. g.up_to o (omega (arith, l, same o)) in
    let child = are here.0 (omega (arith, items_within old here.0 items here.1.1, count)) items here.1.1 g.x below up in
    (slice_index (slice_index_or children here.0 []) g.x, (items ++ g.x ∷ [], child, λ o. omega (arith, same o, g.same o, times_last o g.x items, times_cons o g.x g.rest)))

-- ---- what is known stock by stock

pub read_stock : (stocks : List Stock) (i : ℕ) (s : Stock) → i < length stocks → s ≡ get_or stocks i s → slice_get stocks i ≡ Some s
read_stock stocks i s l e = slice_get_read stocks (length stocks) i s refl l e

pub get_seam : {X : Type 0} (xs : List X) (x d : X) → get_or (xs ++ x ∷ []) (length xs) d ≡ x
get_seam [] x d = refl
get_seam (y ∷ xs) x d = get_seam xs x d

pub length_last : {X : Type 0} (xs : List X) (x : X) → length (xs ++ x ∷ []) ≡ length xs + 1
length_last [] x = refl
length_last (y ∷ xs) x = omega (arith, length_last xs x)

pub count_push : {X : Type 0} (xs new : List X) (x : X) (n : ℕ) → new ≡ xs ++ x ∷ [] → length xs ≡ n → length new ≡ n + 1
count_push xs new x n e count = omega (arith, ap length e, length_last xs x, count)

-- the greatest operation of a list is in it
pub greatest_in : (items : List ℕ) (greatest : ℕ) → IsGreatest items greatest → 1 ≤ length items → 1 ≤ times greatest items
greatest_in [] greatest is l = absurd (omega (arith, l))
greatest_in (x ∷ xs) zero is l =
    let first : x ≤ 0 = is.up_to x (times_at x xs) in
    let same : x ≡ 0 = omega (arith, first) in
    subst (λ (y : ℕ). 1 ≤ times y (x ∷ xs)) same (times_at x xs)
greatest_in (x ∷ xs) (suc g) is l = elim (before_or_behind 0 (times (suc g) (x ∷ xs))) [
  | inl u ↦ omega (arith, u)
  | inr u ↦ absurd (
      let below : UpTo g (x ∷ xs) = λ o h. elim (same_or o (suc g)) [
        | inl e ↦ absurd (let k : times o (x ∷ xs) ≡ times (suc g) (x ∷ xs) = ap (λ (y : ℕ). times y (x ∷ xs)) e in omega (arith, h, k, u))
        | inr n ↦ (let r = is.up_to o h in omega (arith, r, n))
      ] in
      omega (arith, is.least g below))
]
