-- When a stock splits, by the set of the operations that are reached from one.
use Rattle.std.proofs.Common.{◌≡◌, ℕ, zero, suc, ◌<◌, ◌≤◌, ◌⊎◌, inl, inr, ◌↔◌, List, [], ◌∷◌, ◌++◌, bit_or, refl, sym, ap, ◌∙◌, subst, arith, Bool, true, false, not, nat_eq, true≢false}
use Rattle.std.specs.Prelude.{IsBitSet}
use Rattle.std.proofs.lemmas.Nat.{le_or_l}
use Rattle.std.proofs.lemmas.Nat.Bits.{same_from_bits}
use Rattle.cn_outcomes.proofs.BitSets.{by_bit, union_set}
use Rattle.cn_outcomes.proofs.Packing.{below_or_last}
use Rattle.cn_stocks.specs.Components.{AreReached}
use Rattle.cn_stocks.proofs.StockLemmas.{before_or_behind}
use Rattle.std.specs.Int.{bit_at}
use Rattle.std.proofs.lemmas.Bool.{eqb-true, eq-eqb}
use Rattle.cn_table.specs.TypeTable.{TypeTable}
use Rattle.cn_table.specs.Run.{state_after}
use Rattle.cn_outcomes.proofs.LastProcess.{bit_from, set_from}
use Rattle.cn_stocks.specs.Meetings.{AreLeft, HasAt}
use Rattle.cn_stocks.specs.Splits.{AreJoined, StockSplits}
use Rattle.cn_stocks.specs.Words.{BeginsWith, EndsIn, IsKnown, IsWithin, Shows, times}
use Rattle.cn_stocks.proofs.Steps.{shows_first}

in_set : ℕ → ℕ → Bool
in_set set f = nat_eq (bit_at set f) 1

yes_in : (set f : ℕ) → IsBitSet set f → in_set set f ≡ true
unfolding in_set
yes_in set f b = eq-eqb (bit_at set f) 1 (bit_from set f b)

from_yes : (set f : ℕ) → in_set set f ≡ true → IsBitSet set f
unfolding in_set
from_yes set f e = set_from set f (eqb-true (bit_at set f) 1 e)

pub either : (b : Bool) → (b ≡ true) ⊎ (b ≡ false)
either true = inl refl
either false = inr refl

pub not_true : (b : Bool) → b ≡ false → not b ≡ true
not_true b e = ap not e

pub not_false : (b : Bool) → not b ≡ true → b ≡ false
not_false true e = absurd (true≢false (sym e))
not_false false e = refl

pub not_no : (b : Bool) → not b ≡ false → b ≡ true
not_no true e = refl
not_no false e = absurd (true≢false e)

begun_with : (f : ℕ) (word : List ℕ) → BeginsWith f word → (rest : List ℕ) × (word ≡ f ∷ rest)
begun_with f [] b = absurd b
begun_with f (x ∷ xs) b = (xs, ap (λ (y : ℕ). y ∷ xs) b)

-- what a word shows ends in a state that is left
shows_left : (t : TypeTable) (start : ℕ) (stock : List ℕ) (f o r q : ℕ) → Shows t start stock f o r q → EndsIn t start stock f q
shows_left t start stock f o r q s =
    let w = begun_with f (s.before ++ o ∷ s.after) s.begins in
    (w.0, subst (λ (word : List ℕ). IsWithin stock word) w.1 s.within, subst (λ (word : List ℕ). state_after t start word ≡ q) w.1 s.ends)

module _ (t : TypeTable) (start : ℕ) (items : List ℕ) where
  -- operations that are joined leave a common state
  pub joined_meet : (sets : List ℕ) → AreLeft t start items sets → (f g : ℕ) → AreJoined t start items f g → (q : ℕ) × HasAt sets f q × HasAt sets g q
  joined_meet sets left f g j =
      (j.2, (left f j.2).1 (shows_left t start items f j.0 j.1 j.2 j.3), (left g j.2).1 (shows_left t start items g j.0 j.1 j.2 j.4))

  pub joined_sym : (f g : ℕ) → AreJoined t start items f g → AreJoined t start items g f
  joined_sym f g j = (j.0, j.1, j.2, j.4, j.3)

  pub reached_first : (first set : ℕ) → ((g : ℕ) → IsBitSet set g → g ≡ first) → AreReached t start items first set
  reached_first first set only chosen sure closed g b = ap chosen (only g b) ∙ sure

  pub reached_more : (first set new more : ℕ) → AreReached t start items first set → ((g : ℕ) → IsBitSet more g → IsBitSet set g ⊎ IsBitSet new g)
      → ((g : ℕ) → IsBitSet new g → (f : ℕ) × IsBitSet set f × AreJoined t start items f g) → AreReached t start items first more
  reached_more first set new more r m n chosen sure closed g b = elim (m g b) [
    | inl a ↦ r chosen sure closed g a
    | inr a ↦ (let f = n g a in closed f.0 g (r chosen sure closed f.0 f.1) f.2)
  ]

  -- a set that is closed and has some operation of the stock but not all
  pub splits_by : (k : ℕ) → IsKnown k items → (first set : ℕ) → 1 ≤ times first items → IsBitSet set first → ((f g : ℕ) → f < k → g < k → IsBitSet set f → AreJoined t start items f g → IsBitSet set g)
      → (g : ℕ) × (1 ≤ times g items) × (¬ IsBitSet set g) → StockSplits t start items
  splits_by k known first set some has closed out = record {
    chosen = in_set set;
    inside = (first, some, yes_in set first has);
    outside = (out.0, out.1, no_in (in_set set out.0) refl);
    apart = λ f g sure unsure joined.
        let f_known = known f (shows_first t start items f joined.0 joined.1 joined.2 joined.3) in
        let g_known = known g (shows_first t start items g joined.0 joined.1 joined.2 joined.4) in
        true≢false (sym (yes_in set g (closed f g f_known g_known (from_yes set f sure) joined)) ∙ unsure);
  }
    where
      no_in : (b : Bool) → in_set set out.0 ≡ b → b ≡ false
      no_in true e = absurd (out.2 (from_yes set out.0 e))
      no_in false e = refl

  -- where all operations are reached from one
  pub whole : (first set : ℕ) → AreReached t start items first set → ((g : ℕ) → 1 ≤ times g items → IsBitSet set g) → ¬ StockSplits t start items
  whole first set r covers s = elim (either (s.chosen first)) [
    | inl sure ↦ true≢false (sym (r s.chosen sure (λ f g e j. closed f g e j) s.outside.0 (covers s.outside.0 s.outside.1)) ∙ s.outside.2)
    | inr unsure ↦ true≢false (sym s.inside.2 ∙ not_false (s.chosen s.inside.0)
        (r (λ f. not (s.chosen f)) (not_true (s.chosen first) unsure) (λ f g e j. opened f g e j) s.inside.0 (covers s.inside.0 s.inside.1)))
  ]
    where
      closed : (f g : ℕ) → s.chosen f ≡ true → AreJoined t start items f g → s.chosen g ≡ true
      closed f g e j = elim (either (s.chosen g)) [ inl y ↦ y | inr n ↦ absurd (s.apart f g e n j) ]

      opened : (f g : ℕ) → not (s.chosen f) ≡ true → AreJoined t start items f g → not (s.chosen g) ≡ true
      opened f g e j = elim (either (s.chosen g)) [ inl y ↦ absurd (s.apart g f y (not_false (s.chosen f) e) (joined_sym f g j)) | inr n ↦ not_true (s.chosen g) n ]

-- ---- sets

-- a set with all numbers of another one is not below it
union_above : (a b u : ℕ) → ((q : ℕ) → IsBitSet u q ↔ (IsBitSet a q ⊎ IsBitSet b q)) → a ≤ u
union_above a b u h =
    let same : u ≡ bit_or a b = same_from_bits u (bit_or a b) (λ i. bits i (by_bit u i) (by_bit (bit_or a b) i)) in
    omega (arith, same, le_or_l a b)
  where
    bits : (i : ℕ) → (bit_at u i ≡ 0) ⊎ (bit_at u i ≡ 1) → (bit_at (bit_or a b) i ≡ 0) ⊎ (bit_at (bit_or a b) i ≡ 1) → bit_at u i ≡ bit_at (bit_or a b) i
    bits i (inl x) (inl y) = x ∙ sym y
    bits i (inl x) (inr y) = absurd (omega (arith, x, bit_from u i ((h i).1 ((union_set a b i).0 (set_from (bit_or a b) i y)))))
    bits i (inr x) (inl y) = absurd (omega (arith, y, bit_from (bit_or a b) i ((union_set a b i).1 ((h i).0 (set_from u i x)))))
    bits i (inr x) (inr y) = x ∙ sym y

pub subset_above : (a b : ℕ) → ((q : ℕ) → IsBitSet a q → IsBitSet b q) → a ≤ b
subset_above a b h = union_above a b b (λ q. ((λ x. inr x), (λ x. elim x [ inl y ↦ h q y | inr y ↦ y ])))

-- an operation below the bound that is not in the set, if there is one
look : (items : List ℕ) (set k : ℕ) → ((g : ℕ) × (1 ≤ times g items) × (¬ IsBitSet set g)) ⊎ ((g : ℕ) → g < k → 1 ≤ times g items → IsBitSet set g)
look items set zero = inr (λ g l s. absurd (omega (arith, l)))
look items set (suc k) = elim (look items set k) [
  | inl r ↦ inl r
  | inr all ↦ elim (by_bit set k) [
    | inl z ↦ elim (before_or_behind 0 (times k items)) [
      | inl s ↦ inl (k, omega (arith, s), λ b. absurd (omega (arith, z, bit_from set k b)))
      | inr n ↦ inr (λ g l s. elim (below_or_last g k (omega (arith, l)))
          [ inl u ↦ all g u s | inr e ↦ absurd (let h : times g items ≡ times k items = ap (λ (x : ℕ). times x items) e in omega (arith, s, n, h)) ])
    ]
    | inr o ↦ inr (λ g l s. elim (below_or_last g k (omega (arith, l))) [ inl u ↦ all g u s | inr e ↦ subst (λ (x : ℕ). IsBitSet set x) (sym e) (set_from set k o) ])
  ]
]

pub uncovered : (k : ℕ) (items : List ℕ) (set : ℕ) → IsKnown k items → (((g : ℕ) → 1 ≤ times g items → IsBitSet set g) → ⊥) → (g : ℕ) × (1 ≤ times g items) × (¬ IsBitSet set g)
uncovered k items set known fails = elim (look items set k) [ inl r ↦ r | inr all ↦ absurd (fails (λ g s. all g (known g s) s)) ]
