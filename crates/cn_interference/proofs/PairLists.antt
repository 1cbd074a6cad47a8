-- Lists of pairs of operations that do not interfere in some state.
use Rattle.std.proofs.Common.{◌≡◌, ◌⊎◌, ℕ, ◌+◌, ◌<◌, ◌≤◌, inl, inr, List, [], ◌∷◌, ◌++◌, length, get_or, refl, sym, ap, ◌∙◌, subst, arith, Contains}
use Rattle.std.proofs.lemmas.List.Elements.{Contains-append_left, Contains-get_or, Contains-push, Contains-push_cases}
use Rattle.std.proofs.lemmas.List.Quantifiers.{all_pairs_push}
use Rattle.std.proofs.lemmas.Bool.{cases_lt}
use Rattle.cn_table.specs.TypeTable.{TypeTable}
use Rattle.cn_interference.specs.Pairs.{AreApart, ArePairsApart, ArePairsBelow, IsPairApart, IsPairBelow, PairComesBefore}
use Rattle.cn_interference.specs.declared.pairs.OperationPair.{OperationPair}

abbrev pub pair_of : ℕ → ℕ → OperationPair
pair_of f g = record { first = record { 0 = f }; second = record { 0 = g } }

same_pair : (f g : ℕ) (pair : OperationPair) → pair.first.0 ≡ f → pair.second.0 ≡ g → pair_of f g ≡ pair
same_pair f g pair e h = ap (λ x. pair_of x g) (sym e) ∙ ap (λ y. pair_of pair.first.0 y) (sym h)

below_next : (f g : ℕ) (pair : OperationPair) → IsPairBelow f g pair → IsPairBelow f (g + 1) pair
below_next f g pair h = elim h [ inl l ↦ inl l | inr s ↦ inr (s.0, omega (arith, s.1)) ]

-- a pair below the next one is this one or below it
below_cases : (f g : ℕ) (pair : OperationPair) → IsPairBelow f (g + 1) pair → IsPairBelow f g pair ⊎ ((pair.first.0 ≡ f) × (pair.second.0 ≡ g))
below_cases f g pair h = elim h [
  | inl l ↦ inl (inl l)
  | inr s ↦ elim (cases_lt pair.second.0 g) [
    | inl less ↦ inl (inr (s.0, less))
    | inr more ↦ inr (s.0, omega (arith, s.1, more))
  ]
]

module _ (t : TypeTable) where
  pub no_pairs : ArePairsBelow t 0 0 []
  no_pairs = record {
    listed = λ pair. (
      λ h. absurd (omega (arith, h.1)),
      λ h. elim h.1 [ inl l ↦ absurd (omega (arith, l)) | inr s ↦ absurd (omega (arith, s.1)) ],
    );
    ascending = λ i j d l u. absurd (omega (arith, u));
  }

  -- the second operation of a pair is behind the first
  pub row_begins : (f : ℕ) (pairs : List OperationPair) → ArePairsBelow t f 0 pairs → ArePairsBelow t f (f + 1) pairs
  row_begins f pairs are = record {
    listed = λ pair. (
      λ h. let r = (are.listed pair).0 h in (r.0, elim r.1 [ inl l ↦ inl l | inr s ↦ inr (s.0, absurd (omega (arith, s.1))) ]),
      λ h. (are.listed pair).1 (h.0, elim h.1 [ inl l ↦ inl l | inr s ↦ absurd (omega (arith, s.0, s.1, h.0.0)) ]),
    );
    ascending = are.ascending;
  }

  pub row_ends : (f g : ℕ) (pairs : List OperationPair) → length t.operations ≤ g → ArePairsBelow t f g pairs → ArePairsBelow t (f + 1) 0 pairs
  row_ends f g pairs last are = record {
    listed = λ pair. (
      λ h. let r = (are.listed pair).0 h in (r.0, elim r.1 [ inl l ↦ inl (omega (arith, l)) | inr s ↦ inl (omega (arith, s.0)) ]),
      λ h. (are.listed pair).1 (h.0, up_to pair h.0 h.1),
    );
    ascending = are.ascending;
  }
    where
      up_to : (pair : OperationPair) → IsPairApart t pair → IsPairBelow (f + 1) 0 pair → IsPairBelow f g pair
      up_to pair apart h = elim h [
        | inl l ↦ elim (cases_lt pair.first.0 f) [
          | inl less ↦ inl less
          | inr more ↦ inr (omega (arith, l, more), omega (arith, last, apart.1))
        ]
        | inr s ↦ absurd (omega (arith, s.1))
      ]

  pub pair_left_out : (f g : ℕ) (pairs : List OperationPair) → ¬ AreApart t f g → ArePairsBelow t f g pairs → ArePairsBelow t f (g + 1) pairs
  pair_left_out f g pairs none are = record {
    listed = λ pair. (
      λ h. let r = (are.listed pair).0 h in (r.0, below_next f g pair r.1),
      λ h. elim (below_cases f g pair h.1) [
        | inl less ↦ (are.listed pair).1 (h.0, less)
        | inr same ↦ absurd (none (subst (λ (x : ℕ). AreApart t x g) same.0 (subst (λ (y : ℕ). AreApart t pair.first.0 y) same.1 h.0.2)))
      ],
    );
    ascending = are.ascending;
  }

  pub pair_pushed : (f g : ℕ) (pairs : List OperationPair) → f < g → g < length t.operations → AreApart t f g → ArePairsBelow t f g pairs
      → ArePairsBelow t f (g + 1) (pairs ++ pair_of f g ∷ [])
  pair_pushed f g pairs less known apart are = record {
    listed = λ pair. (
      λ h. elim (Contains-push_cases pairs (pair_of f g) pair h) [
        | inl old ↦ (let r = (are.listed pair).0 old in (r.0, below_next f g pair r.1))
        | inr new ↦ subst (λ (p : OperationPair). IsPairApart t p × IsPairBelow f (g + 1) p) new ((less, known, apart), inr (refl, omega arith))
      ],
      λ h. elim (below_cases f g pair h.1) [
        | inl less ↦ Contains-append_left pairs (pair_of f g ∷ []) pair ((are.listed pair).1 (h.0, less))
        | inr same ↦ subst (λ (p : OperationPair). Contains (pairs ++ pair_of f g ∷ []) p) (same_pair f g pair same.0 same.1) (Contains-push pairs (pair_of f g))
      ],
    );
    ascending = all_pairs_push PairComesBefore pairs (pair_of f g) are.ascending
        (λ k d l. ((are.listed (get_or pairs k d)).0 (Contains-get_or pairs k d l)).1);
  }

  pub pairs_whole : (f : ℕ) (pairs : List OperationPair) → length t.operations ≤ f → ArePairsBelow t f 0 pairs → ArePairsApart t pairs
  pairs_whole f pairs last are = record {
    listed = λ pair. (
      λ h. ((are.listed pair).0 h).0,
      λ h. (are.listed pair).1 (h, inl (omega (arith, last, h.0, h.1))),
    );
    ascending = are.ascending;
  }
