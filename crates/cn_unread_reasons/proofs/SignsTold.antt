-- Signs as they are told, one response or one operation more at a time.
use Rattle.std.proofs.Common.{◌≡◌, ℕ, ◌+◌, ◌<◌, ◌≤◌, ◌⊎◌, ◌↔◌, inl, inr, List, [], ◌∷◌, ◌++◌, length, get_or, Contains, arith, refl, subst, sym}
use Rattle.std.specs.Prelude.{◌≢◌, AllPairs, IsBitSet}
use Rattle.std.proofs.lemmas.Bool.{cases_lt}
use Rattle.std.proofs.lemmas.List.Quantifiers.{all_pairs_push}
use Rattle.std.proofs.lemmas.List.Elements.{Contains-get_or, All-from_recursion, All-get_or, Contains-append_left, Contains-push, Contains-push_cases}
use Rattle.cn_table.specs.TypeTable.{IsRow, IsTypeTable, TypeTable, no_row, transition}
use Rattle.cn_table.specs.declared.elements.Operation.{Operation}
use Rattle.cn_choice.specs.Renumbering.{other}
use Rattle.cn_outcomes.specs.Subsets.{Below}
use Rattle.cn_signs.specs.StateSets.{AreStatesFor, InTeam}
use Rattle.cn_signs.specs.declared.sign_choice.SignChoice.{SignChoice}
use Rattle.cn_signs.specs.declared.states.SignStates.{SignStates}
use Rattle.cn_unread_reasons.specs.SignWitnesses.{ComesFirst, ComesInOne, IsBefore, IsSignOf}
use Rattle.cn_unread_reasons.specs.declared.sight.Answer.{Answer}

-- nothing is before itself, so lists in order have each once
pub once_in_order : (further : List ℕ) (list : List Answer) → AllPairs (IsBefore further) list → AllPairs (λ x y. x ≢ y) list
once_in_order further list order i j d less within e = elim (subst (IsBefore further (get_or list i d)) (sym e) (order i j d less within)) [
  | inl first ↦ first.2 first.1
  | inr lower ↦ absurd (omega (arith, lower.1))
]

-- a list with one more
pub pushed : (list : List Answer) (x : Answer) (a : Answer) → Contains (list ++ x ∷ []) a ↔ (Contains list a ⊎ (a ≡ x))
pushed list x a = (
  λ h. elim (Contains-push_cases list x a h) [
    | inl old ↦ inl old
    | inr e ↦ inr (sym e)
  ],
  λ h. elim h [
    | inl old ↦ Contains-append_left list (x ∷ []) a old
    | inr e ↦ subst (Contains (list ++ x ∷ [])) (sym e) (Contains-push list x)
  ],
)

-- each response is one of the table
response_known : (t : TypeTable) → IsTypeTable t → (o q : ℕ) → o < length t.operations → q < length t.states → (transition t o q).0 < length t.responses
response_known t table o q l m =
    let row = All-get_or (IsRow (length t.states) (length t.responses)) t.operations o no_row l (All-from_recursion (IsRow (length t.states) (length t.responses)) t.operations table.rows) in
    All-get_or (λ r. r < length t.responses) (get_or t.operations o no_row).response q 0 (subst (λ (k : ℕ). q < k) (sym row.response_len) m)
    (All-from_recursion (λ r. r < length t.responses) (get_or t.operations o no_row).response row.response)

module _ (t : TypeTable) (own others : ℕ) where
  -- the list has those before, and the responses below k to the operation that come in one set alone
  abbrev pub HasBelow : Operation → List Answer → ℕ → List Answer → Type 0
  HasBelow o before k list = (a : Answer) → Contains list a ↔ (Contains before a ⊎ ((a.operation ≡ o) × (a.response.0 < k) × ComesInOne t own others a))

  -- the list has such responses to these operations
  abbrev pub HasFor : List ℕ → List Answer → Type 0
  HasFor further list = (a : Answer) → Contains list a ↔ (Contains further a.operation.0 × ComesInOne t own others a)

  module _ (o : Operation) (before : List Answer) (k : ℕ) where
    wider : (a : Answer) → Contains before a ⊎ ((a.operation ≡ o) × (a.response.0 < k) × ComesInOne t own others a)
        → Contains before a ⊎ ((a.operation ≡ o) × (a.response.0 < k + 1) × ComesInOne t own others a)
    wider a (inl old) = inl old
    wider a (inr f) = inr (f.0, omega (arith, f.1), f.2)

    cases : (a : Answer) → Contains before a ⊎ ((a.operation ≡ o) × (a.response.0 < k + 1) × ComesInOne t own others a)
        → (Contains before a ⊎ ((a.operation ≡ o) × (a.response.0 < k) × ComesInOne t own others a))
        ⊎ ((a ≡ record { operation = o; response = record { 0 = k } }) × ComesInOne t own others a)
    cases a (inl old) = inl (inl old)
    cases a (inr f) = elim (cases_lt a.response.0 k) [
      | inl less ↦ inl (inr (f.0, less, f.2))
      | inr above ↦
          (let e : a.response.0 ≡ k = omega (arith, above, f.1) in
          inr (subst (λ (p : Operation). a ≡ record { operation = p; response = record { 0 = k } }) f.0 (subst (λ (r : ℕ). a ≡ record { operation = a.operation; response = record { 0 = r } }) e refl), f.2))
    ]

    pub response_more : (old new : List Answer) → ((a : Answer) → Contains new a ↔ (Contains old a ⊎ (a ≡ record { operation = o; response = record { 0 = k } })))
        → ComesInOne t own others (record { operation = o; response = record { 0 = k } }) → HasBelow o before k old → HasBelow o before (k + 1) new
    response_more old new more comes so_far a = (
      λ h. elim ((more a).0 h) [
        | inl there ↦ wider a ((so_far a).0 there)
        | inr e ↦ inr (subst (λ (x : Answer). (x.operation ≡ o) × (x.response.0 < k + 1) × ComesInOne t own others x) (sym e) (refl, omega arith, comes))
      ],
      λ h. (more a).1 (elim (cases a h) [
        | inl there ↦ inl ((so_far a).1 there)
        | inr at ↦ inr at.0
      ]),
    )

    -- the next response stands behind all so far
    pub order_more : (further : List ℕ) (old : List Answer) → HasBelow o before k old → ((a : Answer) → Contains before a → ComesFirst further a.operation.0 o.0)
        → AllPairs (IsBefore further) old → AllPairs (IsBefore further) (old ++ record { operation = o; response = record { 0 = k } } ∷ [])
    order_more further old so_far first order = all_pairs_push (IsBefore further) old (record { operation = o; response = record { 0 = k } }) order (λ i d within.
        elim ((so_far (get_or old i d)).0 (Contains-get_or old i d within)) [
          | inl there ↦ inl (first (get_or old i d) there)
          | inr f ↦ inr (f.0, f.1)
        ])

    pub response_out : (old : List Answer) → ¬ ComesInOne t own others (record { operation = o; response = record { 0 = k } }) → HasBelow o before k old → HasBelow o before (k + 1) old
    response_out old not so_far a = (
      λ h. wider a ((so_far a).0 h),
      λ h. elim (cases a h) [
        | inl there ↦ (so_far a).1 there
        | inr at ↦ absurd (not (subst (ComesInOne t own others) at.0 at.1))
      ],
    )

    pub all_responses : (list : List Answer) → IsTypeTable t → o.0 < length t.operations → Below (length t.states) own → length t.responses ≤ k → HasBelow o before k list
        → (a : Answer) → Contains list a ↔ (Contains before a ⊎ ((a.operation ≡ o) × ComesInOne t own others a))
    all_responses list table known below last so_far a = (
      λ h. elim ((so_far a).0 h) [
        | inl old ↦ inl old
        | inr f ↦ inr (f.0, f.2)
      ],
      λ h. (so_far a).1 (elim h [
        | inl old ↦ inl old
        | inr f ↦
            (let at = f.1.0 in
            let in_range : a.response.0 < length t.responses =
            subst (λ (r : ℕ). r < length t.responses) at.2 (response_known t table a.operation.0 at.0 (subst (λ (p : Operation). p.0 < length t.operations) (sym f.0) known) (below at.0 at.1)) in
            inr (f.0, omega (arith, in_range, last), f.1))
      ]),
    )

  pub operation_again : (further : List ℕ) (o : ℕ) (list : List Answer) → Contains further o → HasFor further list → HasFor (further ++ o ∷ []) list
  operation_again further o list had so_far a = (
    λ h. let f = (so_far a).0 h in (Contains-append_left further (o ∷ []) a.operation.0 f.0, f.1),
    λ f. (so_far a).1 (elim (Contains-push_cases further o a.operation.0 f.0) [
      | inl old ↦ (old, f.1)
      | inr e ↦ (subst (Contains further) e had, f.1)
    ]),
  )

  pub operation_more : (further : List ℕ) (o : ℕ) (old new : List Answer)
      → ((a : Answer) → Contains new a ↔ (Contains old a ⊎ ((a.operation ≡ record { 0 = o }) × ComesInOne t own others a)))
      → HasFor further old → HasFor (further ++ o ∷ []) new
  operation_more further o old new more so_far a = (
    λ h. elim ((more a).0 h) [
      | inl there ↦ (let f = (so_far a).0 there in (Contains-append_left further (o ∷ []) a.operation.0 f.0, f.1))
      | inr f ↦ (subst (λ (p : Operation). Contains (further ++ o ∷ []) p.0) (sym f.0) (Contains-push further o), f.1)
    ],
    λ f. (more a).1 (elim (Contains-push_cases further o a.operation.0 f.0) [
      | inl old ↦ inl ((so_far a).1 (old, f.1))
      | inr e ↦ inr (subst (λ (n : ℕ). a.operation ≡ record { 0 = n }) (sym e) refl, f.1)
    ]),
  )

  -- the sets are those of the teams of the choice
  pub exact_signs : (c : SignChoice) (s : SignStates) (list : List Answer) → AreStatesFor t c s → ((q : ℕ) → IsBitSet own q ↔ InTeam s c.side q)
      → ((q : ℕ) → IsBitSet others q ↔ InTeam s (other c.side) q) → HasFor c.further.items list → (a : Answer) → Contains list a ↔ IsSignOf t c a
  exact_signs c s list are mine theirs has a = (
    λ h.
        let f = (has a).0 h in
        let at = f.1.0 in record {
          operation = f.0;
          comes = (at.0, (are c.side at.0).0 ((mine at.0).0 at.1), at.2);
          never = λ g. f.1.1 (g.0, (theirs g.0).1 ((are (other c.side) g.0).1 g.1), g.2);
        },
    λ sign.
        let at = sign.comes in
        (has a).1 (sign.operation, ((at.0, (mine at.0).1 ((are c.side at.0).1 at.1), at.2), λ g. sign.never (g.0, (are (other c.side) g.0).0 ((theirs g.0).0 g.1), g.2))),
  )
