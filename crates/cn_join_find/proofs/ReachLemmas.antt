-- Operations that joins connect, with more joins.
use Rattle.std.proofs.Common.{◌≡◌, ℕ, ◌<◌, ◌≤◌, ◌⊎◌, inl, inr, List, [], ◌∷◌, ◌++◌, length, get_or, refl, sym, ap, ◌∙◌, subst, arith, All, Contains, Bool, true, false, ◌↔◌, take}
use Rattle.std.specs.Prelude.{IsBitSet}
use Rattle.std.proofs.lemmas.List.Elements.{All-append, All-get_or, All-nil, All-cons, Contains-append_left, Contains-append_right, Contains-push}
use Rattle.std.proofs.lemmas.List.{append_assoc, take_all}
use Rattle.cn_table.specs.TypeTable.{TypeTable}
use Rattle.cn_stocks.specs.Words.{HaveSame, IsWithin, times}
use Rattle.cn_stocks.proofs.SplitLemmas.{subset_above}
use Rattle.cn_stocks.proofs.StockLemmas.{before_or_behind}
use Rattle.cn_stocks.proofs.Times.{place_in, same_or, within_same}
use Rattle.cn_joins.specs.Joins.{Connect, IsJoinWithin, Join, KeepsApart, beginning}
use Rattle.cn_join_find.specs.Crossing.{IsCrossing}
use Rattle.cn_join_find.specs.Reached.{AreMore, AreReached, Covers, IsJoinFrom}

-- ---- more joins

pub fewer_keep : (chosen : ℕ → Bool) (xs ys : List Join) (start : ℕ) (stock : List ℕ) → KeepsApart chosen (xs ++ ys) start stock → KeepsApart chosen xs start stock
fewer_keep chosen xs ys start stock keeps join has = keeps join (Contains-append_left xs ys join has)

pub more_connect : (xs ys : List Join) (start : ℕ) (stock : List ℕ) → Connect xs start stock → Connect (xs ++ ys) start stock
more_connect xs ys start stock c chosen keeps = c chosen (fewer_keep chosen xs ys start stock keeps)

pub more_connect_behind : (xs ys : List Join) (start : ℕ) (stock : List ℕ) → Connect ys start stock → Connect (xs ++ ys) start stock
more_connect_behind xs ys start stock c chosen keeps = c chosen (λ join has. keeps join (Contains-append_right xs ys join has))

pub none_more : (t : TypeTable) (start : ℕ) (xs : List Join) → AreMore t start xs xs
none_more t start xs = record { more = []; goes_on = append_nil xs; are = All-nil (IsJoinFrom t start) }
  where
    append_nil : (l : List Join) → l ≡ l ++ []
    append_nil [] = refl
    append_nil (x ∷ l) = ap (λ (ys : List Join). x ∷ ys) (append_nil l)

pub more_trans : (t : TypeTable) (start : ℕ) (xs ys zs : List Join) → AreMore t start xs ys → AreMore t start ys zs → AreMore t start xs zs
more_trans t start xs ys zs m k = record {
  more = m.more ++ k.more;
  goes_on = k.goes_on ∙ (ap (λ (l : List Join). l ++ k.more) m.goes_on ∙ append_assoc xs m.more k.more);
  are = All-append (IsJoinFrom t start) m.more k.more m.are k.are;
}

pub more_one : (t : TypeTable) (start : ℕ) (xs ys : List Join) (join : Join) → ys ≡ xs ++ join ∷ [] → IsJoinFrom t start join → AreMore t start xs ys
more_one t start xs ys join e is = record { more = join ∷ []; goes_on = e; are = All-cons (IsJoinFrom t start) join [] is (All-nil (IsJoinFrom t start)) }

pub all_more : (t : TypeTable) (start : ℕ) (xs ys : List Join) → AreMore t start xs ys → All (IsJoinFrom t start) xs → All (IsJoinFrom t start) ys
all_more t start xs ys m all = subst (All (IsJoinFrom t start)) (sym m.goes_on) (All-append (IsJoinFrom t start) xs m.more all m.are)

pub still_connect : (t : TypeTable) (start : ℕ) (xs ys : List Join) (stock : List ℕ) → AreMore t start xs ys → Connect xs start stock → Connect ys start stock
still_connect t start xs ys stock m c = subst (λ (l : List Join). Connect l start stock) (sym m.goes_on) (more_connect xs m.more start stock c)

-- ---- the same stock in another order

pub within_other : (start : ℕ) (a b : List ℕ) (join : Join) → HaveSame a b → IsJoinWithin start a join → IsJoinWithin start b join
within_other start a b join same w = record {
  same_start = w.same_start;
  first = within_same a b join.first.word same w.first;
  second = within_same a b join.second.word same w.second;
}

pub connect_same : (joins : List Join) (start : ℕ) (a b : List ℕ) → HaveSame a b → Connect joins start a → Connect joins start b
connect_same joins start a b same c chosen keeps f g l u =
    c chosen (λ join has w. keeps join has (within_other start a b join same w)) f g (omega (arith, l, same f)) (omega (arith, u, same g))

-- ---- the set that is reached

pub all_reached : (joins : List Join) (start : ℕ) (stock : List ℕ) (first set : ℕ) → AreReached joins start stock first set → Covers set stock → Connect joins start stock
all_reached joins start stock first set reached covers chosen keeps f g l u = reached chosen keeps f (covers f l) ∙ sym (reached chosen keeps g (covers g u))

pub reached_across : (t : TypeTable) (joins new : List Join) (start : ℕ) (stock : List ℕ) (first set next : ℕ) (join : Join) → new ≡ joins ++ join ∷ []
    → AreReached joins start stock first set → IsCrossing t start stock set join
    → ((g : ℕ) → IsBitSet next g → IsBitSet set g ⊎ (g ≡ beginning join.second)) → AreReached new start stock first next
reached_across t joins new start stock first set next join e reached cross with_next chosen keeps g b =
    let all = subst (λ (l : List Join). KeepsApart chosen l start stock) e keeps in
    let old = reached chosen (fewer_keep chosen joins (join ∷ []) start stock all) in
    elim (with_next g b) [
      | inl s ↦ old g s
      | inr same ↦ ap chosen same ∙ (sym (all join (Contains-push joins join) cross.within) ∙ old (beginning join.first) cross.inside)
    ]

-- ---- element by element

-- what holds of each element holds of each operation that stands there
pub each_in : (P : ℕ → Type 0) (xs : List ℕ) → All P xs → (o : ℕ) → 1 ≤ times o xs → P o
each_in P xs all o l = let p = place_in o xs l in subst P p.2 (All-get_or P xs p.0 0 p.1 all)

pub all_taken : (P : ℕ → Type 0) (n : ℕ) (xs : List ℕ) → length xs ≤ n → All P (take n xs) → All P xs
all_taken P n xs l all = subst (All P) (take_all n xs l) all

pub within_from : (stock word : List ℕ) → All (λ o. times o word ≤ times o stock) word → IsWithin stock word
within_from stock word all o = elim (before_or_behind 0 (times o word)) [
  | inl l ↦ each_in (λ x. times x word ≤ times x stock) word all o l
  | inr z ↦ omega (arith, z)
]

-- a set with one more is greater
pub greater_set : (set next x : ℕ) → ((g : ℕ) → IsBitSet set g → IsBitSet next g) → IsBitSet next x → ¬ IsBitSet set x → set < next
greater_set set next x all there out =
    let above = subset_above set next all in
    elim (same_or set next) [ inl e ↦ absurd (out (subst (λ (s : ℕ). IsBitSet s x) (sym e) there)) | inr n ↦ omega (arith, above, n) ]

-- ---- one join

-- where the set has one of two operations that go together, both go with it
pub both_go : (chosen : ℕ → Bool) (first f g set : ℕ) (a b : Bool) → (a ≡ true ↔ IsBitSet set f) → (b ≡ true ↔ IsBitSet set g) → (a ≡ b → ⊥) → chosen f ≡ chosen g
    → ((x : ℕ) → IsBitSet set x → chosen x ≡ chosen first) → (chosen f ≡ chosen first) × (chosen g ≡ chosen first)
both_go chosen first f g set true true p q n same all = absurd (n refl)
both_go chosen first f g set false false p q n same all = absurd (n refl)
both_go chosen first f g set true false p q n same all = let h = all f (p.0 refl) in (h, sym same ∙ h)
both_go chosen first f g set false true p q n same all = let h = all g (q.0 refl) in (same ∙ h, h)

-- what is read stands in the list
pub read_contained : {X : Type 0} (xs : List X) (i : ℕ) (x : X) → i < length xs → x ≡ get_or xs i x → Contains xs x
read_contained xs i x l e = (i, l, sym e)
