-- Packed subsets are enough: exchanging twins gives each linked process its neighbour.
use Rattle.std.proofs.Common.{◌≡◌, ℕ, zero, suc, ◌+◌, ◌-◌, ◌^◌, ◌<◌, ◌≤◌, ◌⊎◌, ◌↔◌, inl, inr, length, refl, sym, ap, ◌∙◌, subst, arith, ◌≢◌}
use Rattle.std.specs.Prelude.{IsBitSet}
use Rattle.std.specs.Int.Bits.{bit_or}
use Rattle.std.proofs.lemmas.Nat.{pow_below, pow_pos}
use Rattle.std.proofs.lemmas.Nat.Bits.{bit_at-pow_same}
use Rattle.cn_table.specs.TypeTable.{TypeTable, transition}
use Rattle.cn_choice.specs.declared.team.Team.{Team}
use Rattle.cn_choice.specs.RawChoices.{RawChoice}
use Rattle.cn_choice.specs.OutcomeSets.{InOutcomeSet}
use Rattle.cn_outcomes.specs.Subsets.{FindsState, GivesPair, IsWithout}
use Rattle.cn_choice.specs.Moves.{next_of}
use Rattle.cn_outcomes.specs.Twins.{AreTwinLinks, AreTwins, IsMover, IsPacked, IsRun}
use Rattle.cn_outcomes.proofs.BitSets.{by_bit, cleared, cleared_is, member_below, pow_set, union_set, without_less}
use Rattle.cn_outcomes.proofs.Exchange.{IsExchanged, exchange_first, exchange_other, exchange_second, finds_before, finds_next, gives_exchanged, twin_results, which, without_exchanged}
use Rattle.cn_outcomes.proofs.LastProcess.{LeavesLast, bit_from, set_from}
use Rattle.cn_outcomes.proofs.LastAnswers.{gives_member}

pub below_or_last : (i k : ℕ) → i < k + 1 → (i < k) ⊎ (i ≡ k)
below_or_last zero zero l = inr refl
below_or_last zero (suc k) l = inl (omega arith)
below_or_last (suc i) zero l = absurd (omega arith)
below_or_last (suc i) (suc k) l = elim (below_or_last i k (omega arith)) [ inl h ↦ inl (omega arith) | inr e ↦ inr (ap suc e) ]

-- a number is in a set or not
in_or_not : (set k : ℕ) → IsBitSet set k ⊎ (¬ IsBitSet set k)
in_or_not set k = elim (by_bit set k) [ inl e ↦ inr (λ s. absurd (omega (arith, e, bit_from set k s))) | inr e ↦ inl (set_from set k e) ]

-- ---- up to the last of the linked processes

-- if a property holds of a process of the subset and passes to the linked process after it, it holds of some mover
pub climb : (P : ℕ → Type 0) (links subset : ℕ) → subset < 2 ^ 16 → ((p : ℕ) → IsBitSet links (p + 1) → IsBitSet subset p → IsBitSet subset (p + 1) → P p → P (p + 1))
    → (fuel p : ℕ) → 16 ≤ p + fuel → IsBitSet subset p → P p → (top : ℕ) × IsMover links subset top × P top
climb P links subset u step zero p l s h = absurd (omega (arith, l, member_below 16 subset p u s))
climb P links subset u step (suc fuel) p l s h = by_next (in_or_not links (p + 1)) (in_or_not subset (p + 1)) (λ b k. climb P links subset u step fuel (p + 1) (omega (arith, l)) b k)
  where
    by_next : IsBitSet links (p + 1) ⊎ (¬ IsBitSet links (p + 1)) → IsBitSet subset (p + 1) ⊎ (¬ IsBitSet subset (p + 1))
        → (IsBitSet subset (p + 1) → P (p + 1) → (top : ℕ) × IsMover links subset top × P top) → (top : ℕ) × IsMover links subset top × P top
    by_next (inl a) (inl b) more = more b (step p a s b h)
    by_next (inl a) (inr n) more = (p, (s, λ g. n g.1), h)
    by_next (inr n) both more = (p, (s, λ g. n g.0), h)

-- a packed subset with a member contains the whole run before it
run_members : (links subset last : ℕ) → IsPacked links subset → IsBitSet subset last → (k j : ℕ) → last ≡ j + k → IsRun links j last → IsBitSet subset j
run_members links subset last packed s zero j e run = let same : last ≡ j = omega (arith, e) in subst (IsBitSet subset) same s
run_members links subset last packed s (suc k) j e run =
    packed j (run j (omega arith) (omega (arith, e))) (run_members links subset last packed s k (j + 1) (omega (arith, e)) (λ p l u. run p (omega (arith, l)) u))

-- along a run, up and down
run_up : (P : ℕ → Type 0) (links j : ℕ) → (k last : ℕ) → last ≡ j + k → ((p : ℕ) → j ≤ p → p < last → IsBitSet links (p + 1) → P p → P (p + 1)) → IsRun links j last → P j → P last
run_up P links j zero last e step run h = let same : j ≡ last = omega (arith, e) in subst P same h
run_up P links j (suc k) last e step run h =
    let before : last ≡ (j + k) + 1 = omega (arith, e) in
    subst P (sym before) (step (j + k) (omega arith) (omega (arith, e)) (run (j + k) (omega arith) (omega (arith, e)))
    (run_up P links j k (j + k) refl (λ p l u. step p l (omega (arith, u, e))) (λ p l u. run p l (omega (arith, u, e))) h))

run_down : (P : ℕ → Type 0) (links j : ℕ) → (k last : ℕ) → last ≡ j + k → ((p : ℕ) → j ≤ p → p < last → IsBitSet links (p + 1) → P (p + 1) → P p) → IsRun links j last → P last → P j
run_down P links j zero last e step run h = let same : last ≡ j = omega (arith, e) in subst P same h
run_down P links j (suc k) last e step run h =
    let before : last ≡ (j + k) + 1 = omega (arith, e) in
    run_down P links j k (j + k) refl (λ p l u. step p l (omega (arith, u, e))) (λ p l u. run p l (omega (arith, u, e)))
    (step (j + k) (omega arith) (omega (arith, e)) (run (j + k) (omega arith) (omega (arith, e))) (subst P before h))

-- a subset is packed, or some process is linked to one outside it
packed_or_not : (links subset : ℕ) → subset < 2 ^ 16 → IsPacked links subset ⊎ ((p : ℕ) × IsBitSet links (p + 1) × IsBitSet subset (p + 1) × ¬ IsBitSet subset p)
packed_or_not links subset u = elim (so_far 16) [ inl h ↦ inl (λ p a s. h p (omega (arith, member_below 16 subset (p + 1) u s)) a s) | inr h ↦ inr h ]
  where
    Holds : ℕ → Type 0
    Holds p = IsBitSet links (p + 1) → IsBitSet subset (p + 1) → IsBitSet subset p

    here : (p : ℕ) → Holds p ⊎ (IsBitSet links (p + 1) × IsBitSet subset (p + 1) × ¬ IsBitSet subset p)
    here p = elim (in_or_not subset p) [
      | inl s ↦ inl (λ a b. s)
      | inr n ↦ elim (in_or_not links (p + 1)) [
        | inr m ↦ inl (λ a b. absurd (m a))
        | inl a ↦ elim (in_or_not subset (p + 1)) [ inl b ↦ inr (a, b, n) | inr m ↦ inl (λ a b. absurd (m b)) ]
      ]
    ]

    so_far : (k : ℕ) → ((p : ℕ) → p < k → Holds p) ⊎ ((p : ℕ) × IsBitSet links (p + 1) × IsBitSet subset (p + 1) × ¬ IsBitSet subset p)
    so_far zero = inl (λ p l. absurd (omega (arith, l)))
    so_far (suc k) = elim (so_far k) [
      | inr h ↦ inr h
      | inl h ↦ elim (here k) [
        | inr b ↦ inr (k, b.0, b.1, b.2)
        | inl a ↦ inl (λ p l. elim (below_or_last p k (omega (arith, l))) [ inl u ↦ h p u | inr e ↦ subst Holds (sym e) a ])
      ]
    ]

-- the subset with p + 1 moved down to p
moved_down : (p subset rest : ℕ) → IsBitSet subset (p + 1) → ¬ IsBitSet subset p → IsWithout subset (p + 1) rest → IsExchanged p (p + 1) subset (bit_or rest (2 ^ p))
moved_down p subset rest s n w i = elim (which p (p + 1) i) [
  | inl e ↦ (
    λ _. subst (IsBitSet subset) (sym (exchange_first p (p + 1) i e)) s,
    λ _. (union_set rest (2 ^ p) i).1 (inr (subst (IsBitSet (2 ^ p)) (sym e) (set_from (2 ^ p) p (bit_at-pow_same p)))),
  )
  | inr r ↦ elim r [
    | inl e ↦ (
      λ h. elim ((union_set rest (2 ^ p) i).0 h) [ inl a ↦ absurd (((w i).0 a).1 e) | inr a ↦ absurd (let z = pow_set p i a in omega (arith, z, e)) ],
      λ h. absurd (n (subst (IsBitSet subset) (exchange_second p (p + 1) i e) h)),
    )
    | inr m ↦ (
      λ h. subst (IsBitSet subset) (sym (exchange_other p (p + 1) i m.0 m.1)) (elim ((union_set rest (2 ^ p) i).0 h) [ inl a ↦ ((w i).0 a).0 | inr a ↦ absurd (m.0 (pow_set p i a)) ]),
      λ h. (union_set rest (2 ^ p) i).1 (inl ((w i).1 (subst (IsBitSet subset) (exchange_other p (p + 1) i m.0 m.1) h, m.1))),
    )
  ]
]

moved_less : (p subset rest : ℕ) → IsBitSet subset (p + 1) → ¬ IsBitSet subset p → IsWithout subset (p + 1) rest → bit_or rest (2 ^ p) < subset
moved_less p subset rest s n w =
    let here : IsBitSet (bit_or rest (2 ^ p)) p = (union_set rest (2 ^ p) p).1 (inr (set_from (2 ^ p) p (bit_at-pow_same p))) in
    let back : IsWithout (bit_or rest (2 ^ p)) p rest = λ i. (
      λ a. ((union_set rest (2 ^ p) i).1 (inl a), λ e. n (subst (IsBitSet subset) e ((w i).0 a).0)),
      λ h. elim ((union_set rest (2 ^ p) i).0 h.0) [ inl a ↦ a | inr a ↦ absurd (h.1 (pow_set p i a)) ],
    ) in
    omega (arith, without_less (bit_or rest (2 ^ p)) p rest here back, without_less subset (p + 1) rest s w, pow_below p (p + 1) (omega arith))

-- if a property holds of a subset, and passes on as a linked process moves down, it holds of a packed subset
pub packed_down : (links n : ℕ) (P : ℕ → Type 0) → n ≤ 8 → ((p subset other : ℕ) → IsBitSet links (p + 1) → ¬ IsBitSet subset p → IsExchanged p (p + 1) subset other → P subset → P other)
    → (fuel subset : ℕ) → subset < fuel → subset < 2 ^ n → P subset → (packed : ℕ) × (packed < 2 ^ n) × IsPacked links packed × P packed
packed_down links n P few moves zero subset l u g = absurd (omega (arith, l))
packed_down links n P few moves (suc fuel) subset l u g = elim (packed_or_not links subset (omega (arith, u, pow_below n 16 (omega (arith, few))))) [
  | inl p ↦ (subset, u, p, g)
  | inr h ↦ (
      let p = h.0 in
      let small : subset < 2 ^ 16 = omega (arith, u, pow_below n 16 (omega (arith, few))) in
      let rest = cleared subset (p + 1) in
      let v : IsWithout subset (p + 1) rest = cleared_is subset (p + 1) (member_below 16 subset (p + 1) small h.2) small in
      let less = moved_less p subset rest h.2 h.3 v in
      packed_down links n P few moves fuel (bit_or rest (2 ^ p)) (omega (arith, less, l)) (omega (arith, less, u)) (moves p subset (bit_or rest (2 ^ p)) h.1 h.3 (moved_down p subset rest h.2 h.3 v) g)
      )
]

-- a subset without one of its processes is less
pub rest_less : (subset p rest : ℕ) → rest + 2 ^ p ≡ subset → rest < subset
rest_less subset p rest e = omega (arith, pow_pos p, e)

-- a packed subset without one of its movers is packed
pub rest_packed : (links subset p rest : ℕ) → IsPacked links subset → IsMover links subset p → IsWithout subset p rest → IsPacked links rest
rest_packed links subset p rest packed mover w i a s =
    let u = (w (i + 1)).0 s in
    (w i).1 (packed i a u.0, λ e. mover.1 (subst (λ (k : ℕ). IsBitSet links (k + 1) × IsBitSet subset (k + 1)) e (a, u.0)))

next_same : (t : TypeTable) (c : RawChoice) (p : ℕ) → AreTwins c p → (found : ℕ) → next_of t c (p + 1) found ≡ next_of t c p found
next_same t c p twins found = ap (λ (o : ℕ). (transition t o found).1) (sym twins.operation)

module _ (t : TypeTable) (c : RawChoice) (team : Team) (links : ℕ) (linked : AreTwinLinks c links) where
  without : (subset p : ℕ) → subset < 2 ^ 16 → IsBitSet subset p → IsWithout subset p (cleared subset p)
  without subset p u s = cleared_is subset p (member_below 16 subset p u s) u

  -- if some process moved last, some mover moved last
  pub leaves_by_mover : (subset p q : ℕ) → subset < 2 ^ 16 → IsBitSet subset p → LeavesLast t c team p (cleared subset p) q
      → (top : ℕ) × IsMover links subset top × LeavesLast t c team top (cleared subset top) q
  leaves_by_mover subset p q u s h =
      climb (λ p. LeavesLast t c team p (cleared subset p) q) links subset u
      (λ p a s b g. (
        g.0,
        finds_next t c p (linked.twins p a) team subset (cleared subset p) (cleared subset (p + 1)) g.0 s b (without subset p u s) (without subset (p + 1) u b) g.1,
        next_same t c p (linked.twins p a) g.0 ∙ g.2,
      ))
      16 p (omega arith) s h

  -- the last process of the run finds what process j finds if j moves last
  pub finds_last : (j subset last q : ℕ) → subset < 2 ^ 16 → j ≤ last → IsBitSet subset last → IsPacked links subset → IsRun links j last
      → FindsState t c team j (cleared subset j) q ↔ FindsState t c team last (cleared subset last) q
  finds_last j subset last q u l s packed run =
      let member : (p : ℕ) → j ≤ p → p ≤ last → IsBitSet subset p = λ p a b. run_members links subset last packed s (last - p) p (omega (arith, b)) (λ i d e. run i (omega (arith, a, d)) e) in (
        run_up (λ p. FindsState t c team p (cleared subset p) q) links j (last - j) last (omega (arith, l))
            (λ p a b m g. finds_next t c p (linked.twins p m) team subset (cleared subset p) (cleared subset (p + 1)) q (member p a (omega (arith, b)))
            (member (p + 1) (omega (arith, a)) (omega (arith, b)))
            (without subset p u (member p a (omega (arith, b)))) (without subset (p + 1) u (member (p + 1) (omega (arith, a)) (omega (arith, b)))) g) run,
        run_down (λ p. FindsState t c team p (cleared subset p) q) links j (last - j) last (omega (arith, l))
            (λ p a b m g. finds_before t c p (linked.twins p m) team subset (cleared subset p) (cleared subset (p + 1)) q (member p a (omega (arith, b)))
            (member (p + 1) (omega (arith, a)) (omega (arith, b)))
            (without subset p u (member p a (omega (arith, b)))) (without subset (p + 1) u (member (p + 1) (omega (arith, a)) (omega (arith, b)))) g) run,
      )

  module _ (j : ℕ) (first : ¬ IsBitSet links j) where
    not_linked : (p : ℕ) → IsBitSet links (p + 1) → j ≢ p + 1
    not_linked p a e = first (subst (IsBitSet links) (sym e) a)

    -- process p moved last, and j before it
    abbrev pub MovedBefore : ℕ → ℕ → ℕ → ℕ → ℕ → Type 0
    MovedBefore subset r q p rest = (found : ℕ) × GivesPair t c team j rest r found × (next_of t c p found ≡ q)

    -- if some other process moved last, some mover moved last
    pub gives_by_mover : (subset p r q : ℕ) → subset < 2 ^ 16 → IsBitSet subset p → p ≢ j → MovedBefore subset r q p (cleared subset p)
        → (top : ℕ) × IsMover links subset top × MovedBefore subset r q top (cleared subset top)
    gives_by_mover subset p r q u s n h =
        let g = climb (λ p. (p ≢ j) × MovedBefore subset r q p (cleared subset p)) links subset u
        (λ p a s b g. (
          (λ e. not_linked p a (sym e)),
          (
            g.1.0,
            gives_exchanged t c p (linked.twins p a) team j (cleared subset p) (cleared subset (p + 1)) r g.1.0 (λ e. g.0 (sym e)) (not_linked p a)
                (without_exchanged p subset (cleared subset p) (cleared subset (p + 1)) s b (without subset p u s) (without subset (p + 1) u b)) g.1.1,
            next_same t c p (linked.twins p a) g.1.0 ∙ g.1.2,
          ),
        ))
        16 p (omega arith) s (n, h) in
        (g.0, g.1, g.2.1)

    -- some packed subset gives what a subset gives
    pub packing : (fuel subset r q : ℕ) → subset < fuel → subset < 2 ^ length c.operations → length c.operations ≤ 8 → GivesPair t c team j subset r q
        → (packed : ℕ) × (packed < 2 ^ length c.operations) × IsPacked links packed × GivesPair t c team j packed r q
    packing fuel subset r q l u few g =
        packed_down links (length c.operations) (λ s. GivesPair t c team j s r q) few
        (λ p s o link n x h. gives_exchanged t c p (linked.twins p link) team j s o r q (λ e. n (subst (IsBitSet s) e (gives_member t c team j s r q h))) (not_linked p link) x h)
        fuel subset l u g

-- all twins of a run get the same pairs
pub run_results : (t : TypeTable) (c : RawChoice) (team : Team) (links : ℕ) → AreTwinLinks c links → (first j : ℕ) (pair : ℕ × ℕ) → first ≤ j → IsRun links first j
    → InOutcomeSet t c team first pair ↔ InOutcomeSet t c team j pair
run_results t c team links linked first j pair l run = (
  run_up (λ p. InOutcomeSet t c team p pair) links first (j - first) j (omega (arith, l)) (λ p a b m h. (twin_results t c p (linked.twins p m) team pair).0 h) run,
  run_down (λ p. InOutcomeSet t c team p pair) links first (j - first) j (omega (arith, l)) (λ p a b m h. (twin_results t c p (linked.twins p m) team pair).1 h) run,
)

-- a linked process gets the pairs of the one before it
pub linked_outcomes : (t : TypeTable) (c : RawChoice) (links : ℕ) → AreTwinLinks c links
    → (j : ℕ) → IsBitSet links j → (before : ℕ) × (before < j) × ((team : Team) (pair : ℕ × ℕ) → InOutcomeSet t c team j pair → InOutcomeSet t c team before pair)
linked_outcomes t c links linked zero s = absurd (linked.not_first s)
linked_outcomes t c links linked (suc p) s =
    let next : suc p ≡ p + 1 = omega arith in
    (p, omega arith, λ team pair h. (twin_results t c p (linked.twins p (subst (IsBitSet links) next s)) team pair).1 (subst (λ (j : ℕ). InOutcomeSet t c team j pair) next h))
