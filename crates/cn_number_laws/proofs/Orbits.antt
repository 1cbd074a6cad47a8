-- Whether two operations last from a state: where an operation leads, done any number of times, few times do.
use Rattle.std.proofs.Common.{◌≡◌, ◌≢◌, ℕ, zero, suc, ◌+◌, ◌-◌, ◌<◌, ◌≤◌, ◌⊎◌, inl, inr, List, [], ◌∷◌, ◌++◌, length, refl, sym, ap, ◌∙◌, arith}
use Rattle.std.specs.Prelude.{replicate, slice_index, slice_index_or}
use Rattle.cn_table.specs.TypeTable.{Row, TypeTable, no_row, transition}
use Rattle.cn_table.specs.Run.{state_after}
use Rattle.cn_choice.specs.Discerning.{IsDiscerning}
use Rattle.cn_stocks.specs.Lasting.{HaveCommonState, IsAlwaysDiscerning, Lasts, ManyFirst, NoneLast, SingleFirst}
use Rattle.cn_stocks.proofs.LastingLemmas.Counts.{less_or_not}
use Rattle.cn_stocks.proofs.LastingLemmas.Forms.{state_join}
use Rattle.cn_stocks.proofs.LastingLemmas.Pigeons.{twins}
use Rattle.cn_stocks.proofs.Times.{same_or}
use Rattle.cn_number_laws.specs.LastingStarts.{LastsFrom, NoneLastFrom, SomeLast}
use Rattle.cn_number_laws.proofs.Searches.{some_or_all}

-- ---- a bound of all states to which operations lead

abbrev total : List ℕ → ℕ
total [] = 0
total (x ∷ xs) = x + total xs

abbrev row_total : List Row → ℕ
row_total [] = 0
row_total (r ∷ rs) = total r.next + row_total rs

entry_le : (xs : List ℕ) (i : ℕ) → slice_index xs i ≤ total xs
entry_le [] i = omega arith
entry_le (x ∷ xs) zero = omega arith
entry_le (x ∷ xs) (suc i) = omega (arith, entry_le xs i)

next_le : (rows : List Row) (o q : ℕ) → slice_index (slice_index_or rows o no_row).next q ≤ row_total rows
next_le [] o q = omega arith
next_le (r ∷ rs) zero q = omega (arith, entry_le r.next q)
next_le (r ∷ rs) (suc o) q = omega (arith, next_le rs o q)

module _ (t : TypeTable) where
  abbrev bound : ℕ
  bound = suc (length t.states + row_total t.operations)

  abbrev next : ℕ → ℕ → ℕ
  next o q = (transition t o q).1

  next_below : (o q : ℕ) → next o q < bound
  next_below o q = omega (arith, next_le t.operations o q)

  -- ---- where one operation leads

  module _ (many : ℕ) where
    abbrev path : ℕ → ℕ → ℕ
    path k q = state_after t q (replicate k many)

    path_below : (k q : ℕ) → q < bound → path k q < bound
    path_below zero q l = l
    path_below (suc k) q l = path_below k (next many q) (next_below many q)

    path_sum : (a b q : ℕ) → path (a + b) q ≡ path b (path a q)
    path_sum zero b q = let e : 0 + b ≡ b = omega arith in ap (λ (k : ℕ). path k q) e
    path_sum (suc a) b q = let e : suc a + b ≡ suc (a + b) = omega arith in ap (λ (k : ℕ). path k q) e ∙ path_sum a b (next many q)

    -- a part of the way that leads back to a state can be left out
    cut : (i j k q : ℕ) → j ≤ k → path i q ≡ path j q → path (i + (k - j)) q ≡ path k q
    cut i j k q l e =
        let whole : j + (k - j) ≡ k = omega (arith, l) in
        path_sum i (k - j) q ∙ (ap (path (k - j)) e ∙ (sym (path_sum j (k - j) q) ∙ ap (λ (x : ℕ). path x q) whole))

    -- what the operation leads to it leads to in fewer steps than there are states
    soon : (fuel k q : ℕ) → q < bound → k < fuel → (j : ℕ) × (j < bound) × (path j q ≡ path k q)
    soon zero k q l f = absurd (omega (arith, f))
    soon (suc fuel) k q l f = elim (less_or_not k bound) [
      | inl h ↦ (k, h, refl)
      | inr h ↦ (
          let w = twins bound (λ i. path i q) (λ i u. path_below i q l) in
          let r = soon fuel (w.first + (k - w.second)) q l (omega (arith, f, h, w.before, w.inside)) in
          (r.0, r.1, r.2 ∙ cut w.first w.second k q (omega (arith, h, w.inside)) w.same)
          )
    ]

  -- ---- whether two operations last

  module _ (start many single : ℕ) (known : start < length t.states) where
    start_below : start < bound
    start_below = omega (arith, known)

    abbrev behind : ℕ → ℕ
    behind i = next single (path many i (next many start))

    abbrev end : ℕ → ℕ
    end j = path many j (next single start)

    -- no order that begins with the other operation leaves what this one does
    abbrev Alone : ℕ → Type 0
    Alone j = ((k : ℕ) → k < bound → path many k start ≢ end j) × ((i : ℕ) → i < bound → (k : ℕ) → k < bound → path many k (behind i) ≢ end j)

    mixed : (i k : ℕ) → state_after t start (many ∷ replicate i many ++ single ∷ replicate k many) ≡ path many k (behind i)
    mixed i k = state_join t (next many start) (replicate i many) (single ∷ replicate k many)

    met_or_alone : (j : ℕ) → HaveCommonState t start many single ⊎ Alone j
    met_or_alone j = elim (some_or_all bound (λ k. path many k start ≡ end j) (λ k. path many k start ≢ end j) (λ k l. same_or (path many k start) (end j))) [
      | inl r ↦ inl (end j, inl (r.0, r.2), (j, refl))
      | inr a ↦ elim (some_or_all bound (λ i. (k : ℕ) × (k < bound) × (path many k (behind i) ≡ end j)) (λ i. (k : ℕ) → k < bound → path many k (behind i) ≢ end j)
          (λ i l. some_or_all bound (λ k. path many k (behind i) ≡ end j) (λ k. path many k (behind i) ≢ end j) (λ k u. same_or (path many k (behind i)) (end j)))) [
            | inl r ↦ inl (end j, inr (r.0, r.2.0, mixed r.0 r.2.0 ∙ r.2.2), (j, refl))
            | inr b ↦ inr (a, b)
          ]
    ]

    apart : ((j : ℕ) → j < bound → Alone j) → (state : ℕ) → ManyFirst t start many single state → ¬ SingleFirst t start many single state
    apart alone state m s =
        let j = soon many (suc s.0) s.0 (next single start) (next_below single start) (omega arith) in
        by_order j.0 j.1 (j.2 ∙ s.1) m
      where
        by_order : (j : ℕ) → j < bound → end j ≡ state → ManyFirst t start many single state → ⊥
        by_order j l e (inl r) =
            let k = soon many (suc r.0) r.0 start start_below (omega arith) in
            (alone j l).0 k.0 k.1 (k.2 ∙ (r.1 ∙ sym e))
        by_order j l e (inr r) =
            let i = soon many (suc r.0) r.0 (next many start) (next_below many start) (omega arith) in
            let k = soon many (suc r.1) r.1 (behind i.0) (next_below single (path many i.0 (next many start))) (omega arith) in
            let same : path many r.1 (behind i.0) ≡ path many r.1 (behind r.0) = ap (λ (q : ℕ). path many r.1 (next single q)) i.2 in
            (alone j l).1 i.0 i.1 k.0 k.1 (k.2 ∙ (same ∙ (sym (mixed r.0 r.1) ∙ (r.2 ∙ sym e))))

    last_or_common : many < length t.operations → single < length t.operations → many ≢ single → Lasts t start many single ⊎ HaveCommonState t start many single
    last_or_common m s d = elim (some_or_all bound (λ j. HaveCommonState t start many single) Alone (λ j l. met_or_alone j)) [
      | inl r ↦ inr r.2
      | inr alone ↦ inl (record { start_known = known; many_known = m; single_known = s; different = d; apart = apart alone })
    ]

  pub from_one : (start : ℕ) → start < length t.states → LastsFrom t start ⊎ NoneLastFrom t start
  from_one start known =
      elim (some_or_all (length t.operations) (λ many. (single : ℕ) × Lasts t start many single)
      (λ many. (single : ℕ) → single < length t.operations → many ≢ single → HaveCommonState t start many single) (λ many m. with_many many m)) [
        | inl r ↦ inl (r.0, r.2.0, r.2.1)
        | inr none ↦ inr none
      ]
    where
      with_single : (many single : ℕ) → many < length t.operations → single < length t.operations → (many ≡ single) ⊎ (many ≢ single)
          → Lasts t start many single ⊎ (many ≢ single → HaveCommonState t start many single)
      with_single many single m s (inl e) = inr (λ d. absurd (d e))
      with_single many single m s (inr d) = elim (last_or_common start many single known m s d) [ inl l ↦ inl l | inr c ↦ inr (λ _. c) ]

      with_many : (many : ℕ) → many < length t.operations
          → ((single : ℕ) × Lasts t start many single) ⊎ ((single : ℕ) → single < length t.operations → many ≢ single → HaveCommonState t start many single)
      with_many many m =
          elim (some_or_all (length t.operations) (λ single. Lasts t start many single) (λ single. many ≢ single → HaveCommonState t start many single)
          (λ single s. with_single many single m s (same_or many single))) [
            | inl r ↦ inl (r.0, r.2)
            | inr none ↦ inr none
          ]

  pub some_or_none : SomeLast t ⊎ NoneLast t
  some_or_none = elim (some_or_all (length t.states) (LastsFrom t) (NoneLastFrom t) from_one) [
    | inl r ↦ inl (r.0, r.2)
    | inr none ↦ inr none
  ]

  -- where no number is the greatest, two last
  pub always_last : (NoneLast t → (n : ℕ) × (2 ≤ n) × ¬ IsDiscerning t n) → IsAlwaysDiscerning t → SomeLast t
  always_last never d = elim some_or_none [
    | inl l ↦ l
    | inr none ↦ (let r = never none in absurd (r.2 (d r.0 r.1)))
  ]
