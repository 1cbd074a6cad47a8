-- The stocks of each number of operations, and their sets.
use Rattle.std.proofs.Common.{Global, ◌≡◌, ℕ, zero, suc, ◌+◌, ◌-◌, ◌<◌, inl, inr, List, [], ◌∷◌, ◌++◌, length, refl, sym, ap, ◌∙◌, subst, arith, Some}
use Rattle.std.specs.Prelude.{slice_get}
use Rattle.std.specs.declared.vec.Vec.{Vec}
use Rattle.std.proofs.lemmas.Option.{none-some, same_Some, slice_get_within}
use Rattle.cn_stocks.specs.declared.stocks.Stock.{Stock}
use Rattle.cn_stocks.specs.declared.stocks.Stocks.{Stocks}
use Rattle.cn_stocks.specs.Stocks.{AreAll, SomeAll}
use Rattle.cn_stocks.proofs.StockLemmas.{before_or_behind, count_push, get_before, get_behind}
use Rattle.cn_stocks.specs.Each.{EachAt}
use Rattle.cn_collisions.specs.Levels.{AreBeside, AreLevels}

pub some_at : {X : Type 0} (xs : List X) (i : ℕ) → i < length xs → (x : X) × (slice_get xs i ≡ Some x)
some_at [] i l = absurd (omega arith)
some_at (x ∷ xs) zero l = (x, refl)
some_at (x ∷ xs) (suc i) l = some_at xs i (omega arith)

pub each_empty : {X : Type 0} (P : ℕ → X → Type 0) (xs : List X) → length xs ≡ 0 → EachAt P 0 xs
each_empty P [] l = (refl, λ i x h. absurd (none-some x h))
each_empty P (x ∷ xs) l = absurd (omega (arith, l))

-- what stands before and at the end of a list that was longer by one
module _ {X : Type 0} (xs new : List X) (x : X) (e : new ≡ xs ++ x ∷ []) where
  pub old_at : (i : ℕ) (y : X) → i < length xs → slice_get new i ≡ Some y → slice_get xs i ≡ Some y
  old_at i y l h = sym (get_before xs (x ∷ []) i l) ∙ subst (λ (ys : List X). slice_get ys i ≡ Some y) e h

  pub last_at : (i : ℕ) (y : X) → length xs ≡ i → slice_get new i ≡ Some y → x ≡ y
  last_at i y l h = let k = get_behind xs (x ∷ []) i (omega (arith, l)) in by_place k.0 (omega (arith, k.1, l)) (sym k.2 ∙ subst (λ (ys : List X). slice_get ys i ≡ Some y) e h)
    where
      by_place : (k : ℕ) → k ≡ 0 → slice_get (x ∷ []) k ≡ Some y → x ≡ y
      by_place zero z h = same_Some x y h
      by_place (suc k) z h = absurd (omega (arith, z))

  pub new_within : (i : ℕ) (y : X) → slice_get new i ≡ Some y → i < length xs + 1
  new_within i y h = omega (arith, slice_get_within new i y h, count_push xs new x (length xs) e refl)

module _ (operations : ℕ) where
  pub levels_first : (xs new : List Stocks) (s : Stocks) → xs ≡ [] → new ≡ xs ++ s ∷ [] → AreAll operations 0 [] s → AreLevels operations 1 new
  levels_first xs new s none e all = record {
    long = count_push xs new s 0 e (ap length none);
    first = λ r h. subst (λ (x : Stocks). AreAll operations 0 [] x) (last_at xs new s e 0 r (ap length none) h) all;
    next = λ m b r h g. absurd (omega (arith, new_within xs new s e (suc m) r g, ap length none));
  }

  pub levels_push : (n : ℕ) (xs new : List Stocks) (s b : Stocks) → new ≡ xs ++ s ∷ [] → AreLevels operations (n + 1) xs → slice_get xs n ≡ Some b → AreAll operations (n + 1) b.list.items s
      → AreLevels operations (n + 1 + 1) new
  levels_push n xs new s b e are at all = record {
    long = count_push xs new s (n + 1) e are.long;
    first = λ r h. are.first r (old_at xs new s e 0 r (omega (arith, are.long)) h);
    next = λ m c r h g. elim (before_or_behind (suc m) (length xs)) [
      | inl l ↦ are.next m c r (old_at xs new s e m c (omega (arith, l)) h) (old_at xs new s e (suc m) r l g)
      | inr l ↦ (
          let same : m ≡ n = omega (arith, l, are.long, new_within xs new s e (suc m) r g) in
          let here : slice_get xs n ≡ Some c = subst (λ (i : ℕ). slice_get xs i ≡ Some c) same (old_at xs new s e m c (omega (arith, same, are.long)) h) in
          let below : b ≡ c = same_Some b c (sym at ∙ here) in
          let last : s ≡ r = last_at xs new s e (suc m) r (omega (arith, same, are.long)) g in
          subst (λ (k : ℕ). AreAll operations (k + 1) c.list.items r) (sym same)
          (subst (λ (x : Stocks). AreAll operations (n + 1) x.list.items r) below (subst (λ (x : Stocks). AreAll operations (n + 1) b.list.items x) last all))
          )
    ];
  }

  pub some_all : (count m : ℕ) (levels : List Stocks) (s : Stocks) → AreLevels operations count levels → slice_get levels m ≡ Some s → SomeAll operations m s
  some_all count zero levels s are h = ([], are.first s h)
  some_all count (suc m) levels s are h =
      let b = some_at levels m (let l = slice_get_within levels (suc m) s h in omega (arith, l)) in
      let next : m + 1 ≡ suc m = omega arith in
      (b.0.list.items, subst (λ (k : ℕ). AreAll operations k b.0.list.items s) next (are.next m b.0 s b.1 h))

  module _ {E : Type 0} (Of : ℕ → List Stock → List E → Type 0) (empty : (xs : List E) → length xs ≡ 0 → Of 0 [] xs) where
    -- the stocks of one operation less, and their sets
    pub beside : (count size : ℕ) (levels : List Stocks) (sets : List (Vec E Global)) (below : List E) (s : Stocks) → AreLevels operations count levels
        → EachAt (λ m e. (s : Stocks) → slice_get levels m ≡ Some s → Of m s.list.items e.items) size sets → (size ≡ 0 → length below ≡ 0)
        → ((m : ℕ) (level : Vec E Global) → size ≡ m + 1 → slice_get sets m ≡ Some level → below ≡ level.items) → slice_get levels size ≡ Some s
        → (before : List Stock) × AreBeside operations size before s.list.items × Of (size - 1) before below
    beside count zero levels sets below s are each none some h =
        let all = are.first s h in
        ([], record { stocks_are = all.stocks; long = all.long }, empty below (none refl))
    beside count (suc m) levels sets below s are each none some h =
        let b = some_at levels m (let l = slice_get_within levels (suc m) s h in omega (arith, l)) in
        let level = some_at sets m (omega (arith, each.0)) in
        let next : m + 1 ≡ suc m = omega arith in
        let less : m ≡ suc m - 1 = omega arith in
        let all = subst (λ (k : ℕ). AreAll operations k b.0.list.items s) next (are.next m b.0 s b.1 h) in
        let here = each.1 m level.0 level.1 b.0 b.1 in (
          b.0.list.items,
          record { stocks_are = all.stocks; long = all.long },
          subst (λ (k : ℕ). Of k b.0.list.items below) less (subst (λ (xs : List E). Of m b.0.list.items xs) (sym (some m level.0 (omega arith) level.1)) here),
        )

-- what holds of the stock at a place holds of each stock there
pub same_at : {X : Type 0} (P : X → Type 0) (xs : List X) (i : ℕ) (x y : X) → slice_get xs i ≡ Some x → P x → slice_get xs i ≡ Some y → P y
same_at P xs i x y e p f = subst P (same_Some x y (sym e ∙ f)) p
