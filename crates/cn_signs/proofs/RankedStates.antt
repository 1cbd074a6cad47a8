-- Ends that are taken away, again and again.
use Rattle.std.proofs.Common.{◌≡◌, ◌≢◌, ℕ, zero, suc, ◌+◌, ◌<◌, ◌⊎◌, ◌↔◌, inl, inr, List, length, sym, ◌∙◌, arith, true, false, true≢false, cond}
use Rattle.std.specs.Prelude.{IsBitSet, slice_index}
use Rattle.std.proofs.lemmas.Bool.{cases_Bool, cases_eq, cond-false, cond-true}
use Rattle.cn_table.specs.TypeTable.{TypeTable, transition}
use Rattle.cn_signs.specs.SignChecks.{HasRanks, IsEnd, LeadsOut, Shows}
use Rattle.cn_signs.proofs.Sets.{has, has_exact, has_not}

module _ (t : TypeTable) (operations rows : List ℕ) (states : ℕ) where
  abbrev pub next : ℕ → ℕ → ℕ
  next i q = (transition t (slice_index operations i) q).1

  -- a number for each state that is not left, which falls with each change without a sign
  pub record Ranked (left : ℕ) : Type 0 where
    pub rank : ℕ → ℕ
    pub height : ℕ
    pub low : (q : ℕ) → IsBitSet states q → ¬ IsBitSet left q → rank q < height
    pub falls : (q i : ℕ) → IsBitSet states q → ¬ IsBitSet left q → i < length operations → ¬ Shows t rows (slice_index operations i) q → next i q ≢ q
        → (¬ IsBitSet left (next i q)) × (rank (next i q) < rank q)

  pub none_ranked : Ranked states
  none_ranked = record {
    rank = λ q. 0;
    height = 0;
    low = λ q here gone. absurd (gone here);
    falls = λ q i here gone l unseen changes. absurd (gone here);
  }

  abbrev new_rank : (left ends : ℕ) → Ranked left → ℕ → ℕ
  new_rank left ends r q = cond (has ends q) r.height (r.rank q)

  -- the ends of what is left get the next number
  pub ends_ranked : (left ends rest : ℕ) → ((q i : ℕ) → IsBitSet states q → i < length operations → IsBitSet states (next i q))
      → ((q : ℕ) → IsBitSet ends q ↔ IsEnd t operations rows left q) → ((q : ℕ) → IsBitSet rest q ↔ (IsBitSet left q × ¬ IsBitSet ends q)) → Ranked left → Ranked rest
  ends_ranked left ends rest closed exact less r = record {
    rank = new_rank left ends r;
    height = r.height + 1;
    low = λ q here gone. elim (cases_Bool (has ends q)) [
      | inl e ↦ (let same = at_end q e in omega (arith, same))
      | inr e ↦ (let same = at_old q e in let l = r.low q here (old_gone q e gone) in omega (arith, same, l))
    ];
    falls = λ q i here gone l unseen changes. elim (cases_Bool (has ends q)) [
      | inl e ↦ by_end q i here l unseen changes e (((exact q).0 ((has_exact ends q).0 e)).1 i l)
      | inr e ↦ (
          let f = r.falls q i here (old_gone q e gone) l unseen changes in
          let same = at_old q e in
          let there = at_old (next i q) (not_end (next i q) f.0) in
          (λ h. f.0 ((less (next i q)).0 h).0, omega (arith, same, there, f.1))
          )
    ];
  }
    where
      at_end : (q : ℕ) → has ends q ≡ true → cond (has ends q) r.height (r.rank q) ≡ r.height
      at_end q e = cond-true (has ends q) r.height (r.rank q) e

      at_old : (q : ℕ) → has ends q ≡ false → cond (has ends q) r.height (r.rank q) ≡ r.rank q
      at_old q e = cond-false (has ends q) r.height (r.rank q) e

      not_end : (q : ℕ) → ¬ IsBitSet left q → has ends q ≡ false
      not_end q none = has_not ends q (λ h. none ((exact q).0 h).0)

      is_off : (q : ℕ) → has ends q ≡ false → ¬ IsBitSet ends q
      is_off q e h = true≢false (sym ((has_exact ends q).1 h) ∙ e)

      old_gone : (q : ℕ) → has ends q ≡ false → ¬ IsBitSet rest q → ¬ IsBitSet left q
      old_gone q e gone there = gone ((less q).1 (there, is_off q e))

      by_end : (q i : ℕ) → IsBitSet states q → i < length operations → ¬ Shows t rows (slice_index operations i) q → next i q ≢ q → has ends q ≡ true
          → LeadsOut t rows left (slice_index operations i) q
          → (¬ IsBitSet rest (next i q)) × (cond (has ends (next i q)) r.height (r.rank (next i q)) < cond (has ends q) r.height (r.rank q))
      by_end q i here l unseen changes e (inl shown) = absurd (unseen shown)
      by_end q i here l unseen changes e (inr (inl same)) = absurd (changes same)
      by_end q i here l unseen changes e (inr (inr out)) =
          let there = at_old (next i q) (not_end (next i q) out) in
          let same = at_end q e in
          let low = r.low (next i q) (closed q i here l) out in
          (λ h. out ((less (next i q)).0 h).0, omega (arith, there, same, low))

  -- where there are ranks, and no state that is left is an end, none is left
  none_left : (left : ℕ) → ((q : ℕ) → IsBitSet left q → IsBitSet states q) → ((q : ℕ) → ¬ IsEnd t operations rows left q) → (h : HasRanks t operations rows states)
      → (n q : ℕ) → h.rank q < n → IsBitSet left q → ⊥
  none_left left within none h zero q l there = absurd (omega (arith, l))
  none_left left within none h (suc n) q l there = none q (there, λ i li. by_sign (none_left left within none h n) i li (cases_Bool (has (slice_index rows (slice_index operations i)) (transition t (slice_index operations i) q).0)))
    where
      by_sign : ((p : ℕ) → h.rank p < n → IsBitSet left p → ⊥) → (i : ℕ) → i < length operations
          → (has (slice_index rows (slice_index operations i)) (transition t (slice_index operations i) q).0 ≡ true)
          ⊎ (has (slice_index rows (slice_index operations i)) (transition t (slice_index operations i) q).0 ≡ false)
          → LeadsOut t rows left (slice_index operations i) q
      by_sign later i li (inl e) = inl ((has_exact (slice_index rows (slice_index operations i)) (transition t (slice_index operations i) q).0).0 e)
      by_sign later i li (inr e) = elim (cases_eq (next i q) q) [
        | inl same ↦ inr (inl same)
        | inr changes ↦ inr (inr (λ out.
            let f = h.falls q i (within q there) li
            (λ shown. true≢false (sym ((has_exact (slice_index rows (slice_index operations i)) (transition t (slice_index operations i) q).0).1 shown) ∙ e)) changes in
            later (next i q) (omega (arith, f, l)) out))
      ]

  pub ranks_exact : (left ends : ℕ) → ((q : ℕ) → IsBitSet left q → IsBitSet states q) → ((q : ℕ) → IsBitSet ends q ↔ IsEnd t operations rows left q) → ((q : ℕ) → ¬ IsBitSet ends q)
      → Ranked left → ((q : ℕ) → ¬ IsBitSet left q) ↔ HasRanks t operations rows states
  ranks_exact left ends within exact empty r = (
    λ none. record {
      rank = r.rank;
      height = r.height;
      low = λ q here. (let l = r.low q here (none q) in omega (arith, l));
      falls = λ q i here l unseen changes. (r.falls q i here (none q) l unseen changes).1;
    },
    λ h q there. none_left left within (λ p e. empty p ((exact p).1 e)) h (h.rank q + 1) q (omega arith) there,
  )
