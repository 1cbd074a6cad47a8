-- Two processes exchanged. If they are twins, the others see the same.
use Rattle.std.proofs.Common.{◌≡◌, ◌≢◌, ℕ, ◌+◌, ◌<◌, ◌⊎◌, ◌↔◌, inl, inr, List, length, map, refl, sym, ap, ◌∙◌, subst, arith, cond, nat_eq}
use Rattle.std.specs.Prelude.{slice_get, slice_index, IsBitSet}
use Rattle.std.proofs.lemmas.Bool.{eq-eqb, ne_eqb}
use Rattle.std.proofs.lemmas.List.Elements.{recursion_from_All}
use Rattle.cn_table.specs.TypeTable.{TypeTable}
use Rattle.cn_table.specs.Run.{state_after}
use Rattle.cn_choice.specs.declared.team.Team.{Team}
use Rattle.cn_choice.specs.RawChoices.{RawChoice}
use Rattle.cn_choice.specs.Renumbering.{Embeds}
use Rattle.cn_choice.specs.OutcomeSets.{InOutcomeSet, pair_of}
use Rattle.cn_outcomes.specs.Subsets.{FindsState, GivesPair, IsOrderOf, IsWithout, LeavesState}
use Rattle.cn_outcomes.specs.Twins.{AreTwins}
use Rattle.cn_choice.proofs.ChoiceLemmas.Embeddings.{begins_embeds, operations_embed, order_embeds, pair_embeds, result_embeds}
use Rattle.cn_outcomes.proofs.LastProcess.{same_or_not, zero_has_none}
use Rattle.cn_choice.proofs.ListLemmas.Members.{Contains-from_IsIn, IsIn, IsIn-from_Contains, IsIn-map, IsIn-map_from}
use Rattle.cn_choice.proofs.OrderLemmas.Walks.{pair_takes_part}

-- p and q exchanged
abbrev pub exchange : ℕ → ℕ → ℕ → ℕ
exchange p q i = cond (nat_eq i p) q (cond (nat_eq i q) p i)

-- the three cases of a number
abbrev pub Which : ℕ → ℕ → ℕ → Type 0
Which p q i = (i ≡ p) ⊎ ((i ≡ q) ⊎ ((i ≢ p) × (i ≢ q)))

pub which : (p q i : ℕ) → Which p q i
which p q i = elim (same_or_not i p) [ inl e ↦ inl e | inr n ↦ elim (same_or_not i q) [ inl e ↦ inr (inl e) | inr m ↦ inr (inr (n, m)) ] ]

pub exchange_first : (p q i : ℕ) → i ≡ p → exchange p q i ≡ q
exchange_first p q i e = rw (eq-eqb i p e) refl

pub exchange_second : (p q i : ℕ) → i ≡ q → exchange p q i ≡ p
exchange_second p q i e = elim (same_or_not i p) [
  | inl f ↦ exchange_first p q i f ∙ (sym e ∙ f)
  | inr n ↦ rw (ne_eqb i p n, eq-eqb i q e) refl
]

pub exchange_other : (p q i : ℕ) → i ≢ p → i ≢ q → exchange p q i ≡ i
exchange_other p q i n m = rw (ne_eqb i p n, ne_eqb i q m) refl

pub exchange_twice : (p q i : ℕ) → exchange p q (exchange p q i) ≡ i
exchange_twice p q i = elim (which p q i) [
  | inl e ↦ ap (exchange p q) (exchange_first p q i e) ∙ (exchange_second p q q refl ∙ sym e)
  | inr r ↦ elim r [
    | inl e ↦ ap (exchange p q) (exchange_second p q i e) ∙ (exchange_first p q p refl ∙ sym e)
    | inr n ↦ ap (exchange p q) (exchange_other p q i n.0 n.1) ∙ exchange_other p q i n.0 n.1
  ]
]

-- the processes of V are those of U with the two exchanged
abbrev pub IsExchanged : ℕ → ℕ → ℕ → ℕ → Type 0
IsExchanged p q U V = (i : ℕ) → IsBitSet V i ↔ IsBitSet U (exchange p q i)

pub exchanged_back : (p q U V : ℕ) → IsExchanged p q U V → IsExchanged p q V U
exchanged_back p q U V h i = (
  λ s. (h (exchange p q i)).1 (subst (IsBitSet U) (sym (exchange_twice p q i)) s),
  λ s. subst (IsBitSet U) (exchange_twice p q i) ((h (exchange p q i)).0 s),
)

-- if both are in the subset, the exchange takes it without the first to it without the second
pub without_exchanged : (p subset one other : ℕ) → IsBitSet subset p → IsBitSet subset (p + 1) → IsWithout subset p one → IsWithout subset (p + 1) other → IsExchanged p (p + 1) one other
without_exchanged p subset one other s u v w i = elim (which p (p + 1) i) [
  | inl e ↦ (
    λ _. subst (IsBitSet one) (sym (exchange_first p (p + 1) i e)) ((v (p + 1)).1 (u, (let n : p + 1 ≢ p = omega arith in n))),
    λ _. subst (IsBitSet other) (sym e) ((w p).1 (s, (let n : p ≢ p + 1 = omega arith in n))),
  )
  | inr r ↦ elim r [
    | inl e ↦ (
      λ h. absurd (((w i).0 h).1 e),
      λ h. absurd (((v p).0 (subst (IsBitSet one) (exchange_second p (p + 1) i e) h)).1 refl),
    )
    | inr n ↦ (
      λ h. subst (IsBitSet one) (sym (exchange_other p (p + 1) i n.0 n.1)) ((v i).1 (((w i).0 h).0, n.0)),
      λ h. (w i).1 (((v i).0 (subst (IsBitSet one) (exchange_other p (p + 1) i n.0 n.1) h)).0, n.1),
    )
  ]
]

module _ (t : TypeTable) (c : RawChoice) (p : ℕ) (twins : AreTwins c p) where
  embeds : Embeds (exchange p (p + 1)) c c
  embeds = record {
    same_state = refl;
    inside = λ i l. elim (which p (p + 1) i) [
      | inl e ↦ (let f = exchange_first p (p + 1) i e in omega (arith, twins.inside, f))
      | inr r ↦ elim r [ inl e ↦ (let f = exchange_second p (p + 1) i e in omega (arith, twins.inside, f)) | inr n ↦ (let f = exchange_other p (p + 1) i n.0 n.1 in omega (arith, l, f)) ]
    ];
    apart = λ i j l u e. sym (exchange_twice p (p + 1) i) ∙ (ap (exchange p (p + 1)) e ∙ exchange_twice p (p + 1) j);
    operation = λ i l. elim (which p (p + 1) i) [
      | inl e ↦ ap (slice_index c.operations) e ∙ (twins.operation ∙ ap (slice_index c.operations) (sym (exchange_first p (p + 1) i e)))
      | inr r ↦ elim r [
        | inl e ↦ ap (slice_index c.operations) e ∙ (sym twins.operation ∙ ap (slice_index c.operations) (sym (exchange_second p (p + 1) i e)))
        | inr n ↦ ap (slice_index c.operations) (sym (exchange_other p (p + 1) i n.0 n.1))
      ]
    ];
    team = λ i l. elim (which p (p + 1) i) [
      | inl e ↦ ap (slice_get c.marks) e ∙ (twins.team ∙ ap (slice_get c.marks) (sym (exchange_first p (p + 1) i e)))
      | inr r ↦ elim r [
        | inl e ↦ ap (slice_get c.marks) e ∙ (sym twins.team ∙ ap (slice_get c.marks) (sym (exchange_second p (p + 1) i e)))
        | inr n ↦ ap (slice_get c.marks) (sym (exchange_other p (p + 1) i n.0 n.1))
      ]
    ];
  }

  -- the order with the two exchanged
  order_exchanged : (U V : ℕ) (order : List ℕ) → IsExchanged p (p + 1) U V → IsOrderOf (length c.operations) U order → IsOrderOf (length c.operations) V (map (exchange p (p + 1)) order)
  order_exchanged U V order x o = record {
    ordered = order_embeds (exchange p (p + 1)) c c embeds order o.ordered;
    exactly = λ i. (
      λ h.
          let r = IsIn-map_from (exchange p (p + 1)) i order (IsIn-from_Contains i (map (exchange p (p + 1)) order) h) in
          (x i).1 (subst (IsBitSet U) (sym (exchange_twice p (p + 1) r.0) ∙ ap (exchange p (p + 1)) r.1) ((o.exactly r.0).0 (Contains-from_IsIn r.0 order r.2))),
      λ s.
          let m = IsIn-map (exchange p (p + 1)) (exchange p (p + 1) i) order (IsIn-from_Contains (exchange p (p + 1) i) order ((o.exactly (exchange p (p + 1) i)).1 ((x i).0 s))) in
          Contains-from_IsIn i (map (exchange p (p + 1)) order) (subst (λ (k : ℕ). IsIn k (map (exchange p (p + 1)) order)) (exchange_twice p (p + 1) i) m),
    );
  }

  pub leaves_exchanged : (team : Team) (U V q : ℕ) → IsExchanged p (p + 1) U V → LeavesState t c team U q → LeavesState t c team V q
  leaves_exchanged team U V q x h =
      let known = recursion_from_All (λ i. i < length c.operations) h.0 h.1.ordered.known in (
        map (exchange p (p + 1)) h.0,
        order_exchanged U V h.0 x h.1,
        begins_embeds (exchange p (p + 1)) c c embeds team h.0 known h.2,
        ap (state_after t c.state) (sym (operations_embed (exchange p (p + 1)) c c embeds h.0 known)) ∙ h.3,
      )

  pub gives_exchanged : (team : Team) (j U V r q : ℕ) → j ≢ p → j ≢ p + 1 → IsExchanged p (p + 1) U V → GivesPair t c team j U r q → GivesPair t c team j V r q
  gives_exchanged team j U V r q n m x h =
      let known = recursion_from_All (λ i. i < length c.operations) h.0 h.1.ordered.known in
      let l = pair_takes_part t c (length c.operations) h.0 j (r, q) h.1.ordered.known h.3 in (
        map (exchange p (p + 1)) h.0,
        order_exchanged U V h.0 x h.1,
        begins_embeds (exchange p (p + 1)) c c embeds team h.0 known h.2,
        ap (pair_of t c (map (exchange p (p + 1)) h.0)) (sym (exchange_other p (p + 1) j n m)) ∙ (sym (pair_embeds (exchange p (p + 1)) c c embeds t h.0 j l h.1.ordered.known) ∙ h.3),
      )

  -- the second finds what the first finds after the others
  pub finds_next : (team : Team) (subset one other q : ℕ) → IsBitSet subset p → IsBitSet subset (p + 1) → IsWithout subset p one → IsWithout subset (p + 1) other
      → FindsState t c team p one q → FindsState t c team (p + 1) other q
  finds_next team subset one other q s u v w h = elim h [
    | inl a ↦ absurd (zero_has_none (p + 1) (subst (λ (x : ℕ). IsBitSet x (p + 1)) a.0 ((v (p + 1)).1 (u, (let n : p + 1 ≢ p = omega arith in n)))))
    | inr b ↦ inr (leaves_exchanged team one other q (without_exchanged p subset one other s u v w) b)
  ]

  pub finds_before : (team : Team) (subset one other q : ℕ) → IsBitSet subset p → IsBitSet subset (p + 1) → IsWithout subset p one → IsWithout subset (p + 1) other
      → FindsState t c team (p + 1) other q → FindsState t c team p one q
  finds_before team subset one other q s u v w h = elim h [
    | inl a ↦ absurd (zero_has_none p (subst (λ (x : ℕ). IsBitSet x p) a.0 ((w p).1 (s, (let n : p ≢ p + 1 = omega arith in n)))))
    | inr b ↦ inr (leaves_exchanged team other one q (exchanged_back p (p + 1) one other (without_exchanged p subset one other s u v w)) b)
  ]

  -- both get the same pairs from the orders that begin in a team
  pub twin_results : (team : Team) (pair : ℕ × ℕ) → InOutcomeSet t c team p pair ↔ InOutcomeSet t c team (p + 1) pair
  twin_results team pair = (
    λ h. subst (λ (j : ℕ). InOutcomeSet t c team j pair) (exchange_first p (p + 1) p refl) (result_embeds (exchange p (p + 1)) c c embeds t team p pair h),
    λ h. subst (λ (j : ℕ). InOutcomeSet t c team j pair) (exchange_second p (p + 1) (p + 1) refl) (result_embeds (exchange p (p + 1)) c c embeds t team (p + 1) pair h),
  )
