-- Sets that are unions of parts, one part after another.
use Rattle.std.proofs.Common.{◌^◌, ◌*◌, ◌%◌, List, [], ◌∷◌, length, get_or, get_or-set_other, get_or-set_same, length-set, ◌≡◌, ◌≢◌, ℕ, zero, suc, ◌+◌, ◌<◌, ◌≤◌, ◌⊎◌, inl, inr, ◌↔◌, refl, sym, ap, ◌∙◌, subst, arith, Contains}
use Rattle.std.specs.Prelude.{IsBitSet, slice_get, slice_index, Some}
use Rattle.cn_choice.specs.declared.team.Team.{Team}
use Rattle.cn_table.specs.TypeTable.{TypeTable, transition}
use Rattle.cn_choice.specs.RawChoices.{RawChoice}
use Rattle.std.proofs.lemmas.Bool.{cases_lt}
use Rattle.std.proofs.lemmas.Nat.{one_shl, pow_below, pow_pos}
use Rattle.cn_outcomes.specs.PairSets.{Has}
use Rattle.cn_choice.specs.OutcomeSets.{InOutcomeSet}
use Rattle.std.proofs.Math.ListN.{set}
use Rattle.cn_outcomes.specs.Subsets.{AreRowsOf, ArePairs, Below, LeavesState, GivesPair, FindsState, IsWithout, OtherLast, OwnLast}
use Rattle.cn_choice.specs.Moves.{answer_of, next_of}
use Rattle.cn_outcomes.specs.LeftStates.{LeavesIn}
use Rattle.cn_outcomes.specs.Twins.{AreTwinLinks, IsMover, IsPacked, IsRun}
use Rattle.cn_choice.proofs.ListLemmas.Members.{IsIn, Contains-from_IsIn, IsIn-from_Contains}
use Rattle.cn_outcomes.proofs.Exchange.{leaves_exchanged}
use Rattle.cn_outcomes.proofs.Packing.{below_or_last, finds_last, gives_by_mover, leaves_by_mover, packed_down, packing}
use Rattle.cn_outcomes.proofs.LastProcess.{exactly_to, known_from, zero_has_none, LeavesLast, leaves_to, leaves_from, leaves_some}
use Rattle.cn_outcomes.proofs.LastAnswers.{exactly_subset, gives_to, gives_from, gives_member, outcome_subset, pair_parts, subset_below, subset_of}
use Rattle.cn_outcomes.proofs.BitSets.{cleared, cleared_is, without_one, member_below}

-- the set, of whatever elements, is the union of the parts below k
abbrev pub Gathers : {X : Type 0} → (ℕ → X → Type 0) → ℕ → (X → Type 0) → Type 0
Gathers {X} part k set = (x : X) → set x ↔ ((i : ℕ) × (i < k) × part i x)

pub gathers_more : {X : Type 0} (part : ℕ → X → Type 0) (k : ℕ) (set more : X → Type 0) → Gathers part k set → ((x : X) → more x ↔ (set x ⊎ part k x)) → Gathers part (k + 1) more
gathers_more part k set more g h x = (
  λ s. elim ((h x).0 s) [ inl a ↦ (let r = (g x).0 a in (r.0, omega (arith, r.1), r.2)) | inr b ↦ (k, omega arith, b) ],
  λ r. (h x).1 (elim (below_or_last r.0 k r.1) [ inl l ↦ inl ((g x).1 (r.0, l, r.2)) | inr e ↦ inr (subst (λ (i : ℕ). part i x) e r.2) ]),
)

pub gathers_none : {X : Type 0} (part : ℕ → X → Type 0) (k : ℕ) (set : X → Type 0) → Gathers part k set → ((x : X) → ¬ part k x) → Gathers part (k + 1) set
gathers_none part k set g n = gathers_more part k set set g (λ x. (λ s. inl s, λ h. elim h [ inl a ↦ a | inr b ↦ absurd (n x b) ]))

-- ---- unions over the members of a set, of which some are left

-- the set, together with the parts of the members that are left, is the union of the parts of all members
pub record GathersFrom {X : Type 0} (part : ℕ → X → Type 0) (from : ℕ → Type 0) (left : List ℕ) (set : X → Type 0) : Type 0 where
  pub within : (i : ℕ) → IsIn i left → from i
  pub same : (x : X) → (set x ⊎ ((i : ℕ) × IsIn i left × part i x)) ↔ ((i : ℕ) × from i × part i x)

-- the first that is left is a member
pub from_first : {X : Type 0} {part : ℕ → X → Type 0} {from : ℕ → Type 0} {left rest : List ℕ} {k : ℕ} {set : X → Type 0} → GathersFrom part from left set → left ≡ k ∷ rest → from k
from_first {k = k} g e = g.within k (subst (IsIn k) (sym e) (inl refl))

module _ {X : Type 0} (part : ℕ → X → Type 0) (from : ℕ → Type 0) where
  -- each member is left
  pub from_none : (left : List ℕ) (set : X → Type 0) → ((i : ℕ) → Contains left i ↔ from i) → ((x : X) → ¬ set x) → GathersFrom part from left set
  from_none left set are n = record {
    within = λ i h. (are i).0 (Contains-from_IsIn i left h);
    same = λ x. (
      λ h. elim h [ inl s ↦ absurd (n x s) | inr r ↦ (r.0, (are r.0).0 (Contains-from_IsIn r.0 left r.1), r.2) ],
      λ r. inr (r.0, IsIn-from_Contains r.0 left ((are r.0).1 r.1), r.2),
    );
  }

  -- one member more
  pub from_more : (left rest : List ℕ) (k : ℕ) (set more : X → Type 0) → left ≡ k ∷ rest → GathersFrom part from left set → ((x : X) → more x ↔ (set x ⊎ part k x)) → GathersFrom part from rest more
  from_more left rest k set more e g h = record {
    within = λ i b. g.within i (subst (IsIn i) (sym e) (inr b));
    same = λ x. (
      λ s. (g.same x).0 (elim s [
        | inl m ↦ elim ((h x).0 m) [ inl a ↦ inl a | inr p ↦ inr (k, subst (IsIn k) (sym e) (inl refl), p) ]
        | inr r ↦ inr (r.0, subst (IsIn r.0) (sym e) (inr r.1), r.2)
      ]),
      λ r. elim ((g.same x).1 r) [
        | inl a ↦ inl ((h x).1 (inl a))
        | inr b ↦ elim (subst (IsIn b.0) e b.1) [ inl f ↦ inl ((h x).1 (inr (subst (λ (i : ℕ). part i x) (sym f) b.2))) | inr i ↦ inr (b.0, i, b.2) ]
      ],
    );
  }

  -- no member is left
  pub from_all : (left : List ℕ) (set : X → Type 0) → left ≡ [] → GathersFrom part from left set → (x : X) → set x ↔ ((i : ℕ) × from i × part i x)
  from_all left set e g x = (
    λ s. (g.same x).0 (inl s),
    λ r. elim ((g.same x).1 r) [ inl s ↦ s | inr b ↦ absurd (subst (IsIn b.0) e b.1) ],
  )

-- ---- the states that a process may find

module _ (t : TypeTable) (c : RawChoice) (team : Team) (p rest : ℕ) where
  pub found_first : rest ≡ 0 → slice_get c.marks p ≡ Some team → (set : ℕ) → ((q : ℕ) → IsBitSet set q ↔ (IsBitSet 0 q ⊎ (q ≡ c.state))) → ((q : ℕ) → ¬ IsBitSet 0 q) → (q : ℕ)
      → IsBitSet set q ↔ FindsState t c team p rest q
  found_first z m set h n q = (
    λ s. elim ((h q).0 s) [ inl a ↦ absurd (n q a) | inr b ↦ inl (z, m, sym b) ],
    λ f. elim f [ inl a ↦ (h q).1 (inr (sym a.2)) | inr b ↦ absurd (leaves_some t c team q (subst (λ (r : ℕ). LeavesState t c team r q) z b)) ],
  )

  pub found_nothing : rest ≡ 0 → ¬ (slice_get c.marks p ≡ Some team) → (q : ℕ) → FindsState t c team p rest q → ⊥
  found_nothing z m q f = elim f [ inl a ↦ m a.1 | inr b ↦ leaves_some t c team q (subst (λ (r : ℕ). LeavesState t c team r q) z b) ]

-- ---- a row

-- process p of the subset moved last
abbrev pub row_part : TypeTable → RawChoice → Team → ℕ → ℕ → ℕ → Type 0
row_part t c team subset p q = (rest : ℕ) × IsWithout subset p rest × LeavesLast t c team p rest q

pub row_more : (t : TypeTable) (c : RawChoice) (team : Team) (links subset : ℕ) (left after : List ℕ) (k set more rest from new : ℕ) → left ≡ k ∷ after
    → GathersFrom (row_part t c team subset) (IsMover links subset) left (IsBitSet set) → IsWithout subset k rest → ((q : ℕ) → IsBitSet from q ↔ FindsState t c team k rest q)
    → ((q : ℕ) → IsBitSet new q ↔ ((found : ℕ) × IsBitSet from found × (next_of t c k found ≡ q))) → ((q : ℕ) → IsBitSet more q ↔ (IsBitSet set q ⊎ IsBitSet new q))
    → GathersFrom (row_part t c team subset) (IsMover links subset) after (IsBitSet more)
row_more t c team links subset left after k set more rest from new e g w f n m =
    from_more (row_part t c team subset) (IsMover links subset) left after k (IsBitSet set) (IsBitSet more) e g
    (λ q. (
      λ b. elim ((m q).0 b) [ inl a ↦ inl a | inr x ↦ (let r = (n q).0 x in inr (rest, w, (r.0, (f r.0).0 r.1, r.2))) ],
      λ b. (m q).1 (elim b [
        | inl a ↦ inl a
        | inr y ↦ (
            let here = (from_first g e).0 in
            let last = subst (λ (z : ℕ). LeavesLast t c team k z q) (without_one subset k y.0 rest here y.1 w) y.2 in
            inr ((n q).1 (last.0, (f last.0).1 last.1, last.2))
            )
      ]),
    ))

pub row_all : (t : TypeTable) (c : RawChoice) (team : Team) (links : ℕ) → AreTwinLinks c links → (subset : ℕ) (left : List ℕ) (set : ℕ) → left ≡ [] → subset < 2 ^ 16 → subset < 2 ^ length c.operations
    → GathersFrom (row_part t c team subset) (IsMover links subset) left (IsBitSet set) → (q : ℕ) → IsBitSet set q ↔ LeavesState t c team subset q
row_all t c team links linked subset left set e small l g q =
    let whole = from_all (row_part t c team subset) (IsMover links subset) left (IsBitSet set) e g q in (
      λ s. (let r = whole.0 s in let m = r.1 in leaves_from t c team subset r.2.0 r.0 q m.0 (member_below (length c.operations) subset r.0 l m.0) r.2.1 r.2.2),
      λ h.
          let r = leaves_to t c team subset (cleared subset) q (λ p s. cleared_is subset p (member_below 16 subset p small s) small) h in
          let top = leaves_by_mover t c team links linked subset r.0 q small r.1 r.3 in
          whole.1 (top.0, top.1, (cleared subset top.0, cleared_is subset top.0 (member_below 16 subset top.0 small top.1.0) small, top.2)),
    )

-- ---- the rows

-- one place of a list more
pub at_more : {X : Type 0} (fits : ℕ → X → Type 0) (none : X) (rows : List X) (k : ℕ) (row : X) → k < length rows → ((i : ℕ) → i < k → fits i (get_or rows i none)) → fits k row
    → (i : ℕ) → i < k + 1 → fits i (get_or (set rows k row) i none)
at_more fits none rows k row l g h i u = elim (below_or_last i k u) [
  | inl b ↦ (let n : i ≢ k = omega arith in subst (fits i) (sym (get_or-set_other rows k i row none n)) (g i b))
  | inr e ↦ subst (λ (j : ℕ). fits j (get_or (set rows k row) j none)) (sym e) (subst (fits k) (sym (get_or-set_same rows k row none l)) h)
]

-- a number that has no row is none of those that have one
pub below_passed : (has_row : ℕ → Type 0) (k : ℕ) → ¬ has_row k → (s : ℕ) → s < k + 1 → has_row s → s < k
below_passed has_row k n s u p = elim (below_or_last s k u) [ inl l ↦ l | inr e ↦ absurd (n (subst has_row e p)) ]

module _ (has_row : ℕ → Type 0) (states : ℕ → ℕ → Type 0) (bound : ℕ) where
  pub rows_first : (rows : List ℕ) → length rows ≡ 256 → get_or rows 0 0 ≡ 0 → ((q : ℕ) → ¬ states 0 q) → AreRowsOf has_row states bound 1 rows
  rows_first rows e z n = record {
    same = λ s l _ q. none s q (omega arith);
    known = λ s l _ q b. absurd (zero_has_none q (subst (λ (x : ℕ). IsBitSet x q) (here s (omega arith)) b));
    long = e;
  }
    where
      here : (s : ℕ) → s ≡ 0 → get_or rows s 0 ≡ 0
      here s e = ap (λ (i : ℕ). get_or rows i 0) e ∙ z

      none : (s q : ℕ) → s ≡ 0 → IsBitSet (get_or rows s 0) q ↔ states s q
      none s q e = (λ b. absurd (zero_has_none q (subst (λ (x : ℕ). IsBitSet x q) (here s e) b)), λ w. absurd (n q (subst (λ (x : ℕ). states x q) e w)))

  pub rows_more : (rows : List ℕ) (k part : ℕ) → k < length rows → AreRowsOf has_row states bound k rows → ((q : ℕ) → IsBitSet part q ↔ states k q) → Below bound part
      → AreRowsOf has_row states bound (k + 1) (set rows k part)
  rows_more rows k part l r h b = record {
    same = at_more (λ s (row : ℕ). has_row s → (q : ℕ) → IsBitSet row q ↔ states s q) 0 rows k part l r.same (λ _. h);
    known = at_more (λ s (row : ℕ). has_row s → Below bound row) 0 rows k part l r.known (λ _. b);
    long = length-set rows k part ∙ r.long;
  }

  -- a subset that has none is passed by
  pub rows_passed : (rows : List ℕ) (k : ℕ) → ¬ has_row k → AreRowsOf has_row states bound k rows → AreRowsOf has_row states bound (k + 1) rows
  rows_passed rows k n r = record {
    same = λ s u p. r.same s (below_passed has_row k n s u p) p;
    known = λ s u p. r.known s (below_passed has_row k n s u p) p;
    long = r.long;
  }

-- ---- sets of pairs

-- an empty list has no pair
pub nothing_beyond : (xs : List ℕ) (n r q : ℕ) → length xs ≡ n → n ≤ r → ¬ IsBitSet (get_or xs r 0) q
nothing_beyond xs n r q e l b = zero_has_none q (subst (λ (x : ℕ). IsBitSet x q) (beyond xs r (omega (arith, e, l))) b)
  where
    beyond : (xs : List ℕ) (i : ℕ) → length xs ≤ i → get_or xs i 0 ≡ 0
    beyond [] i l = refl
    beyond (x ∷ xs) zero l = absurd (omega arith)
    beyond (x ∷ xs) (suc i) l = beyond xs i (omega arith)

-- a process finds state i, and gets the response and leaves the state of the pair
abbrev pub answer_part : (ℕ → ℕ × ℕ) → ℕ → ℕ × ℕ → Type 0
answer_part step i x = ((step i).0 ≡ x.0) × ((step i).1 ≡ x.1)

-- the response of the pair was got before state i was found, and its state is left
abbrev pub moved_part : (ℕ → ℕ × ℕ) → List ℕ → ℕ → ℕ × ℕ → Type 0
moved_part step set i x = Has set x.0 i × ((step i).1 ≡ x.1)

-- process p of the subset moved last, and j before it
abbrev pub other_part : TypeTable → RawChoice → Team → ℕ → ℕ → ℕ → ℕ × ℕ → Type 0
other_part t c team j subset p x = OtherLast t c team j subset x.1 p x.0

-- a mover other than j
abbrev pub IsOther : ℕ → ℕ → ℕ → ℕ → Type 0
IsOther links subset j p = IsMover links subset p × (p ≢ j)

-- a process that moves behind j is not j
pub other_differs : (t : TypeTable) (c : RawChoice) (team : Team) (j subset p q r : ℕ) → OtherLast t c team j subset q p r → p ≢ j
other_differs t c team j subset p q r y e = absurd (((y.1 j).0 (gives_member t c team j y.0 r y.2.0 y.2.1)).1 (sym e))

-- what process j gets where it moves last, by what the last one of its run finds
pub own_is : (t : TypeTable) (c : RawChoice) (team : Team) (links : ℕ) → AreTwinLinks c links → (j subset last rest operation from : ℕ) (set : ℕ → ℕ → Type 0) → subset < 2 ^ 16
    → j ≤ last → IsBitSet subset j
    → IsBitSet subset last → IsPacked links subset → IsRun links j last
    → IsWithout subset last rest → operation ≡ slice_index c.operations j → ((q : ℕ) → IsBitSet from q ↔ FindsState t c team last rest q)
    → ((r q : ℕ) → set r q ↔ ((found : ℕ) × IsBitSet from found × ((transition t operation found).0 ≡ r) × ((transition t operation found).1 ≡ q)))
    → (r q : ℕ) → set r q ↔ OwnLast t c team j subset r q
own_is t c team links linked j subset last rest operation from set small up s m packed run w is f a r q =
    let b = subst (λ (o : ℕ). set r q ↔ ((found : ℕ) × IsBitSet from found × ((transition t o found).0 ≡ r) × ((transition t o found).1 ≡ q))) is (a r q) in
    let cut : (i : ℕ) → IsBitSet subset i → IsWithout subset i (cleared subset i) = λ i n. cleared_is subset i (member_below 16 subset i small n) small in
    let same = without_one subset last rest (cleared subset last) m w (cut last m) in
    let finds : (x : ℕ) → FindsState t c team j (cleared subset j) x
    ↔ FindsState t c team last (cleared subset last) x = λ x. finds_last t c team links linked j subset last x small up m packed run in (
      λ h. (let x = b.0 h in (cleared subset j, cut j s, (x.0, (finds x.0).1 (subst (λ (z : ℕ). FindsState t c team last z x.0) same ((f x.0).0 x.1)), x.2, x.3))),
      λ h.
          let x = h.2 in
          let found = subst (λ (z : ℕ). FindsState t c team j z x.0) (without_one subset j h.0 (cleared subset j) s h.1 (cut j s)) x.1 in
          b.1 (x.0, (f x.0).1 (subst (λ (z : ℕ). FindsState t c team last z x.0) (sym same) ((finds x.0).0 found)), x.2, x.3),
    )

-- what is given to process j, by whether it moved last
pub pair_all : (t : TypeTable) (c : RawChoice) (team : Team) (links : ℕ) → AreTwinLinks c links → (j subset : ℕ) → ¬ IsBitSet links j → subset < 2 ^ 16
    → subset < 2 ^ length c.operations → IsBitSet subset j → (own others all : ℕ → ℕ → Type 0)
    → ((r q : ℕ) → own r q ↔ OwnLast t c team j subset r q) → ((r q : ℕ) → others r q ↔ ((p : ℕ) × IsMover links subset p × OtherLast t c team j subset q p r))
    → ((r q : ℕ) → all r q ↔ (own r q ⊎ others r q))
    → (r q : ℕ) → all r q ↔ GivesPair t c team j subset r q
pair_all t c team links linked j subset first small l member own others all is_own is_others is_all r q = (
  λ h. elim ((is_all r q).0 h) [
    | inl a ↦ (let x = (is_own r q).0 a in gives_from t c team j subset x.0 j r q member (member_below (length c.operations) subset j l member) x.1 (inl (refl, x.2)))
    | inr a ↦ (
        let x = (is_others r q).0 a in
        gives_from t c team j subset x.2.0 x.0 r q x.1.0 (member_below (length c.operations) subset x.0 l x.1.0) x.2.1
        (inr ((λ e. ((x.2.1 x.0).0 (subst (IsBitSet x.2.0) (sym e) (gives_member t c team j x.2.0 r x.2.2.0 x.2.2.1))).1 refl), x.2.2))
        )
  ],
  λ g.
      let cut : (p : ℕ) → IsBitSet subset p → IsWithout subset p (cleared subset p) = λ p s. cleared_is subset p (member_below 16 subset p small s) small in
      let x = gives_to t c team j subset (cleared subset) r q cut g in
      (is_all r q).1 (elim x.3 [
        | inl a ↦ inl ((is_own r q).1 (
          cleared subset j,
          cut j member,
          (
            a.1.0,
            subst (λ (p : ℕ). FindsState t c team p (cleared subset p) a.1.0) a.0 a.1.1,
            ap (λ (p : ℕ). answer_of t c p a.1.0) (sym a.0) ∙ a.1.2,
            ap (λ (p : ℕ). next_of t c p a.1.0) (sym a.0) ∙ a.1.3,
          ),
        ))
        | inr a ↦ (let top = gives_by_mover t c team links linked j first subset x.0 r q small x.1 a.0 a.1 in inr ((is_others r q).1 (top.0, top.1, (cleared subset top.0, cut top.0 top.1.0, top.2))))
      ]),
)

-- what an order gives to a process, it leaves too
pub gives_leaves : (t : TypeTable) (c : RawChoice) (team : Team) (j subset r q : ℕ) → GivesPair t c team j subset r q → LeavesState t c team subset q
gives_leaves t c team j subset r q g = (g.0, g.1, g.2, (pair_parts t c j g.0 r q g.3).1)

-- ---- the parts of packed subsets

module _ {X : Type 0} (links : ℕ) (part : ℕ → X → Type 0) where
  abbrev pub packed_part : ℕ → X → Type 0
  packed_part s x = IsPacked links s × part s x

  pub packed_first : (set : X → Type 0) → ((x : X) → ¬ set x) → ((x : X) → ¬ part 0 x) → Gathers packed_part 1 set
  packed_first set empty none x = (
    λ b. absurd (empty x b),
    λ h. absurd (let first : h.0 ≡ 0 = omega (arith, h.1) in none x (subst (λ (s : ℕ). part s x) first h.2.1)),
  )

  pub packed_more : (k : ℕ) (set row more : X → Type 0) → IsPacked links k → Gathers packed_part k set → ((x : X) → row x ↔ part k x) → ((x : X) → more x ↔ (set x ⊎ row x))
      → Gathers packed_part (k + 1) more
  packed_more k set row more p g h m = gathers_more packed_part k set more g (λ x. (
    λ b. elim ((m x).0 b) [ inl a ↦ inl a | inr y ↦ inr (p, (h x).0 y) ],
    λ b. (m x).1 (elim b [ inl a ↦ inl a | inr y ↦ inr ((h x).1 y.1) ]),
  ))

  pub packed_passed : (k : ℕ) (set : X → Type 0) → ¬ IsPacked links k → Gathers packed_part k set → Gathers packed_part (k + 1) set
  packed_passed k set n g = gathers_none packed_part k set g (λ x p. n p.0)

gives_some : (t : TypeTable) (c : RawChoice) (team : Team) (j s r q : ℕ) → s ≡ 0 → GivesPair t c team j s r q → ⊥
gives_some t c team j s r q e g = zero_has_none j (subst (λ (x : ℕ). IsBitSet x j) e (gives_member t c team j s r q g))

module _ (t : TypeTable) (c : RawChoice) (team : Team) (j links : ℕ) where
  -- the pairs of the packed subsets so far
  abbrev pub subset_part : ℕ → ℕ × ℕ → Type 0
  subset_part = packed_part links (λ s x. GivesPair t c team j s x.0 x.1)

  pub pairs_first : (sets : List (List ℕ)) → length sets ≡ 256 → ((r q : ℕ) → ¬ Has (get_or sets 0 []) r q) → ArePairs t c team j links 1 sets
  pairs_first sets e none = record {
    same = λ s l _ r q. (
      λ b. absurd (let f : s ≡ 0 = omega (arith, l) in none r q (subst (λ (i : ℕ). Has (get_or sets i []) r q) f b)),
      λ g. absurd (gives_some t c team j s r q (omega arith) g),
    );
    long = e;
  }

  pub pairs_more : (sets : List (List ℕ)) (k : ℕ) (set_k : List ℕ) → k < length sets → ArePairs t c team j links k sets → ((r q : ℕ) → Has set_k r q ↔ GivesPair t c team j k r q)
      → ArePairs t c team j links (k + 1) (set sets k set_k)
  pairs_more sets k set_k l a h = record {
    same = at_more (λ s (pairs : List ℕ). IsPacked links s → (r q : ℕ) → Has pairs r q ↔ GivesPair t c team j s r q) [] sets k set_k l a.same (λ _. h);
    long = length-set sets k set_k ∙ a.long;
  }

  -- a subset without j gives nothing
  pub gives_nothing : (k : ℕ) (none : List ℕ) → ¬ IsBitSet k j → ((r q : ℕ) → ¬ Has none r q) → (r q : ℕ) → Has none r q ↔ GivesPair t c team j k r q
  gives_nothing k none n empty r q = (λ h. absurd (empty r q h), λ g. absurd (n (gives_member t c team j k r q g)))

  pub subsets_without : (k : ℕ) (set : ℕ × ℕ → Type 0) → ¬ IsBitSet k j → Gathers subset_part k set → Gathers subset_part (k + 1) set
  subsets_without k set n g = gathers_none subset_part k set g (λ x p. n (gives_member t c team j k x.0 x.1 p.1))

  -- a subset that is not packed is passed by
  pub pairs_passed : (sets : List (List ℕ)) (k : ℕ) → ¬ IsPacked links k → ArePairs t c team j links k sets → ArePairs t c team j links (k + 1) sets
  pairs_passed sets k n a = record {
    same = λ s u p. a.same s (below_passed (IsPacked links) k n s u p) p;
    long = a.long;
  }

  pub subsets_first : (set : ℕ × ℕ → Type 0) → ((x : ℕ × ℕ) → ¬ set x) → Gathers subset_part 1 set
  subsets_first set empty = packed_first links (λ s x. GivesPair t c team j s x.0 x.1) set empty (λ x. gives_some t c team j 0 x.0 x.1 refl)

  pub subsets_more : (k : ℕ) (set row more : ℕ × ℕ → Type 0) → IsPacked links k → Gathers subset_part k set → ((x : ℕ × ℕ) → row x ↔ GivesPair t c team j k x.0 x.1)
      → ((x : ℕ × ℕ) → more x ↔ (set x ⊎ row x))
      → Gathers subset_part (k + 1) more
  subsets_more = packed_more links (λ s x. GivesPair t c team j s x.0 x.1)

  pub subsets_passed : (k : ℕ) (set : ℕ × ℕ → Type 0) → ¬ IsPacked links k → Gathers subset_part k set → Gathers subset_part (k + 1) set
  subsets_passed = packed_passed links (λ s x. GivesPair t c team j s x.0 x.1)

  pub subsets_all : AreTwinLinks c links → ¬ IsBitSet links j → length c.operations ≤ 8 → (k : ℕ) (set : ℕ × ℕ → Type 0) → k ≡ 2 ^ length c.operations → Gathers subset_part k set
      → (x : ℕ × ℕ) → set x ↔ InOutcomeSet t c team j (x.0, x.1)
  subsets_all linked first few k set e g x = (
    λ b. (let y = (g x).0 b in (outcome_subset t c team j x.0 x.1).1 (y.0, omega (arith, y.1, e), gives_member t c team j y.0 x.0 x.1 y.2.1, y.2.1)),
    λ o.
        let s = (outcome_subset t c team j x.0 x.1).0 o in
        let y = packing t c team links linked j first (s.0 + 1) s.0 x.0 x.1 (omega arith) s.1 few s.3 in
        (g x).1 (y.0, omega (arith, y.1, e), (y.2, y.3)),
  )

-- ---- the states that orders leave

-- an order that leaves a state is one of some subset
pub left_subset : (t : TypeTable) (c : RawChoice) (team : Team) (q : ℕ) → LeavesIn t c team q ↔ ((subset : ℕ) × (subset < 2 ^ length c.operations) × LeavesState t c team subset q)
left_subset t c team q = (
  λ o. (
    subset_of o.0,
    subset_below (length c.operations) o.0 (known_from (length c.operations) o.0 o.1).below,
    (o.0, record { ordered = o.1; exactly = exactly_to (subset_of o.0) o.0 (exactly_subset o.0) }, o.2, o.3),
  ),
  λ g. (g.2.0, g.2.1.ordered, g.2.2, g.2.3),
)

-- the states that the packed subsets leave are all that are left
pub left_all : (t : TypeTable) (c : RawChoice) (team : Team) (links : ℕ) → AreTwinLinks c links → length c.operations ≤ 8 → (k set : ℕ) → k ≡ 2 ^ length c.operations
    → Gathers (packed_part links (LeavesState t c team)) k (IsBitSet set)
    → (q : ℕ) → IsBitSet set q ↔ LeavesIn t c team q
left_all t c team links linked few k set e g q = (
  λ b. (let x = (g q).0 b in (left_subset t c team q).1 (x.0, omega (arith, x.1, e), x.2.1)),
  λ o.
      let x = (left_subset t c team q).0 o in
      let y = packed_down links (length c.operations) (λ s. LeavesState t c team s q) few (λ p s d link n h. leaves_exchanged t c p (linked.twins p link) team s d q h)
      (x.0 + 1) x.0 (omega arith) x.1 x.2 in
      (g q).1 (y.0, omega (arith, y.1, e), (y.2, y.3)),
)

-- the count of subsets
pub subsets_of : (n : ℕ) → n ≤ 8 → (1 * 2 ^ n % 65536 ≡ 2 ^ n) × (2 ^ n ≤ 256) × (1 ≤ 2 ^ n)
subsets_of n l = (one, at_most n l, pow_pos n)
  where
    one : (1 * 2 ^ n) % 2 ^ 16 ≡ 2 ^ n
    one = one_shl n 16 (omega arith)

    at_most : (n : ℕ) → n ≤ 8 → 2 ^ n ≤ 256
    at_most n l = elim (cases_lt n 8) [ inl h ↦ (let b = pow_below n 8 h in omega (arith, b)) | inr h ↦ (let e : n ≡ 8 = omega arith in rw e (omega arith)) ]
