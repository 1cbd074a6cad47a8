-- Operations that are joined, as sets.
use Rattle.std.proofs.Common.{◌≡◌, ◌↔◌, ℕ, ◌+◌, ◌≤◌, ◌⊎◌, inl, inr, List, [], ◌∷◌, refl, sym, ap, subst, arith}
use Rattle.cn_table.specs.TypeTable.{TypeTable}
use Rattle.cn_outcomes.proofs.Packing.{below_or_last}
use Rattle.cn_stocks.specs.declared.pair_sets.PairSet.{PairSet}
use Rattle.cn_stocks.specs.Meetings.{FallApart, HasAt}
use Rattle.cn_stocks.specs.Pairs.{Has}
use Rattle.cn_stocks.specs.Splits.{AreJoined, StockSplits}
use Rattle.cn_stocks.specs.Words.{IsKnown, IsWithin, Shows, times}
use Rattle.cn_stocks.proofs.SplitLemmas.{either}
use Rattle.cn_stocks.proofs.Steps.{shows_asked, shows_first}
use Rattle.cn_stocks.proofs.Times.{one_else, one_of, same_or, times_cons, times_none}
use Rattle.cn_telling.specs.Joined.{AreJoinedBelow, AreJoinedSets, HaveCommonPair}

alone_within : (f : ℕ) (stock : List ℕ) → 1 ≤ times f stock → IsWithin stock (f ∷ [])
alone_within f stock l o = elim (same_or f o) [
  | inl e ↦ (let same : times o stock ≡ times f stock = ap (λ (x : ℕ). times x stock) (sym e) in omega (arith, l, same, times_cons o f [], times_none o, one_of o f e))
  | inr n ↦ omega (arith, times_cons o f [], times_none o, one_else o f n)
]

module _ (t : TypeTable) (start : ℕ) (stock : List ℕ) where
  -- an operation of the stock shows itself what it gets at first
  pub self_joined : (f : ℕ) → 1 ≤ times f stock → AreJoined t start stock f f
  self_joined f l =
      let s : Shows t start stock f f _ _ = record { before = []; after = []; within = alone_within f stock l; begins = refl; answer = refl; ends = refl } in
      (f, _, _, s, s)

  module _ (sets : List ℕ) (are : AreJoinedSets t start stock sets) where
    pub apart_splits : FallApart sets → StockSplits t start stock
    apart_splits a = record {
      chosen = a.chosen;
      inside = (a.inside.0, in_stock a.inside.0 a.inside.2.0 a.inside.2.1, a.inside.1);
      outside = (a.outside.0, in_stock a.outside.0 a.outside.2.0 a.outside.2.1, a.outside.1);
      apart = λ f g yes no j. a.apart f g g yes no ((are f g).1 j) ((are g g).1 (j.0, j.1, j.2, j.4, j.4));
    }
      where
        in_stock : (f q : ℕ) → HasAt sets f q → 1 ≤ times f stock
        in_stock f q h = let j = (are f q).0 h in shows_first t start stock f j.0 j.1 j.2 j.3

    pub splits_apart : StockSplits t start stock → FallApart sets
    splits_apart s = record {
      chosen = s.chosen;
      inside = (s.inside.0, s.inside.2, (s.inside.0, (are s.inside.0 s.inside.0).1 (self_joined s.inside.0 s.inside.1)));
      outside = (s.outside.0, s.outside.2, (s.outside.0, (are s.outside.0 s.outside.0).1 (self_joined s.outside.0 s.outside.1)));
      apart = λ f g q yes no x y.
          let j = (are f q).0 x in
          let k = (are g q).0 y in
          elim (either (s.chosen q)) [
            | inl sure ↦ s.apart q g sure no (k.0, k.1, k.2, k.4, k.3)
            | inr unsure ↦ s.apart f q yes unsure j
          ];
    }

  -- the same by the operation that is shown a common pair
  pub joined_none : (f g : ℕ) → ¬ AreJoinedBelow t start stock 0 f g
  joined_none f g j = absurd (omega (arith, j.1))

  pub joined_more : (k f g : ℕ) (a b : PairSet) (old new : Type 0) → ((r q : ℕ) → Has a r q ↔ Shows t start stock f k r q) → ((r q : ℕ) → Has b r q ↔ Shows t start stock g k r q)
      → old ↔ AreJoinedBelow t start stock k f g → new ↔ (old ⊎ HaveCommonPair a b) → new ↔ AreJoinedBelow t start stock (k + 1) f g
  joined_more k f g a b old new fs gs o n = (
    λ h. elim (n.0 h) [
      | inl x ↦ (let j = o.0 x in (j.0, omega (arith, j.1), j.2))
      | inr c ↦ (k, omega arith, (c.0, (c.1.0, (fs c.0 c.1.0).0 c.1.1, (gs c.0 c.1.0).0 c.1.2)))
    ],
    λ j. n.1 (elim (below_or_last j.0 k j.1) [
      | inl l ↦ inl (o.1 (j.0, l, j.2))
      | inr e ↦ inr (
          let x = j.2 in
          (x.0, (x.1.0, (fs x.0 x.1.0).1 (subst (λ (o : ℕ). Shows t start stock f o x.0 x.1.0) e x.1.1), (gs x.0 x.1.0).1 (subst (λ (o : ℕ). Shows t start stock g o x.0 x.1.0) e x.1.2))))
    ]),
  )

  pub joined_all : (k f g : ℕ) (here : Type 0) → IsKnown k stock → here ↔ AreJoinedBelow t start stock k f g → here ↔ AreJoined t start stock f g
  joined_all k f g here known h = (
    λ x. (let j = h.0 x in (j.0, j.2.0, j.2.1.0, j.2.1.1, j.2.1.2)),
    λ j. h.1 (j.0, known j.0 (shows_asked t start stock f j.0 j.1 j.2 j.3), (j.1, (j.2, j.3, j.4))),
  )
