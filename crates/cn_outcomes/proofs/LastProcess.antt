-- The law of the last process: the orders of a subset, from the orders of the subset without one process.
use Rattle.std.proofs.Common.{◌≡◌, ◌≢◌, ℕ, zero, suc, ◌*◌, ◌^◌, ◌<◌, ◌⊎◌, inl, inr, ◌↔◌, List, [], ◌∷◌, ◌++◌, length, refl, sym, ap, ◌∙◌, subst, arith, Bool, true, false, nat_eq, Some, Contains}
use Rattle.std.specs.Prelude.{slice_index, slice_get, IsBitSet}
use Rattle.std.specs.Int.{bit_at}
use Rattle.std.specs.Int.Bits.{bit_and}
use Rattle.std.proofs.lemmas.List.{map-append}
use Rattle.std.proofs.lemmas.List.Elements.{recursion_from_All}
use Rattle.std.proofs.lemmas.Bool.{eqb-true, eq-eqb}
use Rattle.std.proofs.lemmas.Nat.{pow_pos}
use Rattle.std.proofs.lemmas.Nat.Bits.{and_pow, bit_at-lt, bit_at-zero, same_from_bits}
use Rattle.cn_choice.specs.declared.team.Team.{Team}
use Rattle.cn_table.specs.TypeTable.{TypeTable, transition}
use Rattle.cn_table.specs.Run.{state_after}
use Rattle.cn_choice.specs.RawChoices.{RawChoice}
use Rattle.cn_choice.specs.Orders.{IsOrder}
use Rattle.cn_choice.specs.OutcomeSets.{BeginsIn, operations_of}
use Rattle.cn_outcomes.specs.Subsets.{IsOrderOf, LeavesState, IsWithout, FindsState}
use Rattle.cn_choice.specs.Moves.{next_of}
use Rattle.cn_choice.proofs.ListLemmas.Members.{IsIn, IsIn-append_left, IsIn-append_right, IsIn-append_cases, each_from, each_at, Contains-from_IsIn, IsIn-from_Contains}
use Rattle.cn_choice.proofs.ListLemmas.Arrangements.{Differ}
use Rattle.cn_choice.proofs.OrderLemmas.AllOrders.{differ_from}
use Rattle.cn_choice.proofs.OrderLemmas.LastMoves.{Known, known_last, order_from}

-- ---- bits

pub set_from : (n k : ℕ) → bit_at n k ≡ 1 → IsBitSet n k
set_from n k e z = absurd (omega (arith, pow_pos k, sym (and_pow n k) ∙ z, ap (λ (b : ℕ). b * 2 ^ k) e))

pub by_bit : (n k : ℕ) → (bit_at n k ≡ 0) ⊎ (bit_at n k ≡ 1)
by_bit n k = cases (bit_at n k) refl (bit_at-lt n k)
  where
    cases : (b : ℕ) → bit_at n k ≡ b → b < 2 → (bit_at n k ≡ 0) ⊎ (bit_at n k ≡ 1)
    cases zero e l = inl e
    cases (suc zero) e l = inr e
    cases (suc (suc b)) e l = absurd (omega arith)

pub bit_from : (n k : ℕ) → IsBitSet n k → bit_at n k ≡ 1
bit_from n k s = elim (by_bit n k) [ inl e ↦ (let z : bit_and n (2 ^ k) ≡ 0 = omega (arith, and_pow n k, ap (λ (b : ℕ). b * 2 ^ k) e) in absurd (s z)) | inr e ↦ e ]

pub clear_from : (n k : ℕ) → ¬ IsBitSet n k → bit_at n k ≡ 0
clear_from n k s = elim (by_bit n k) [ inl e ↦ e | inr e ↦ absurd (s (set_from n k e)) ]

-- a number with no bit is 0
pub none_set : (n : ℕ) → ((k : ℕ) → ¬ IsBitSet n k) → n ≡ 0
none_set n h = same_from_bits n 0 (λ i. clear_from n i (h i) ∙ sym (bit_at-zero i))

pub zero_has_none : (k : ℕ) → ¬ IsBitSet 0 k
zero_has_none k s = absurd (omega (arith, bit_from 0 k s, bit_at-zero k))

-- ---- a list and its last element

pub last_of : {X : Type 0} (x : X) (xs : List X) → (before : List X) × (p : X) × (x ∷ xs ≡ before ++ p ∷ [])
last_of x [] = ([], x, refl)
last_of x (y ∷ ys) = let r = last_of y ys in (x ∷ r.0, r.1, ap (λ zs. x ∷ zs) r.2)

differ_before : (xs : List ℕ) (p : ℕ) → Differ (xs ++ p ∷ []) → Differ xs × ((x : ℕ) → IsIn x xs → x ≢ p)
differ_before [] p d = (tt, λ x i. absurd i)
differ_before (y ∷ xs) p d =
    let r = differ_before xs p d.1 in (
      (each_from (λ z. y ≢ z) xs (λ z i. each_at (λ z. y ≢ z) (xs ++ p ∷ []) z d.0 (IsIn-append_left z xs (p ∷ []) i)), r.0),
      λ x i. elim i [ inl e ↦ subst (λ (w : ℕ). w ≢ p) e (each_at (λ z. y ≢ z) (xs ++ p ∷ []) p d.0 (IsIn-append_right p xs (p ∷ []) (inl refl))) | inr j ↦ r.1 x j ],
    )

-- ---- runs and their last operation

pub state_last : (t : TypeTable) (q : ℕ) (os : List ℕ) (o : ℕ) → state_after t q (os ++ o ∷ []) ≡ (transition t o (state_after t q os)).1
state_last t q [] o = refl
state_last t q (x ∷ os) o = state_last t (transition t x q).1 os o

pub state_along : (t : TypeTable) (c : RawChoice) (ps : List ℕ) (p : ℕ) → state_after t c.state (operations_of c (ps ++ p ∷ [])) ≡ next_of t c p (state_after t c.state (operations_of c ps))
state_along t c ps p = ap (state_after t c.state) (map-append (λ p. slice_index c.operations p) ps (p ∷ [])) ∙ state_last t c.state (operations_of c ps) (slice_index c.operations p)

-- ---- orders and their last process

pub known_from : (n : ℕ) (order : List ℕ) → IsOrder n order → Known n order
known_from n order o = record {
  below = λ p i. each_at (λ p. p < n) order p (recursion_from_All (λ p. p < n) order o.known) i;
  differ = differ_from order o.distinct;
}

known_before : (n : ℕ) (ps : List ℕ) (p : ℕ) → Known n (ps ++ p ∷ []) → Known n ps × ((x : ℕ) → IsIn x ps → x ≢ p) × (p < n)
known_before n ps p k =
    let d = differ_before ps p k.differ in
    (record { below = λ x i. k.below x (IsIn-append_left x ps (p ∷ []) i); differ = d.0 }, d.1, k.below p (IsIn-append_right p ps (p ∷ []) (inl refl)))

-- the list has exactly the processes of the subset
abbrev pub Exactly : ℕ → List ℕ → Type 0
Exactly subset ps = (p : ℕ) → (IsIn p ps → IsBitSet subset p) × (IsBitSet subset p → IsIn p ps)

pub exactly_from : (subset : ℕ) (ps : List ℕ) → ((p : ℕ) → Contains ps p ↔ IsBitSet subset p) → Exactly subset ps
exactly_from subset ps h p = (λ i. (h p).0 (Contains-from_IsIn p ps i), λ s. IsIn-from_Contains p ps ((h p).1 s))

pub exactly_to : (subset : ℕ) (ps : List ℕ) → Exactly subset ps → (p : ℕ) → Contains ps p ↔ IsBitSet subset p
exactly_to subset ps h p = (λ k. (h p).0 (IsIn-from_Contains p ps k), λ s. Contains-from_IsIn p ps ((h p).1 s))

exactly_before : (subset rest p : ℕ) (ps : List ℕ) → ((x : ℕ) → IsIn x ps → x ≢ p) → IsWithout subset p rest → Exactly subset (ps ++ p ∷ []) → Exactly rest ps
exactly_before subset rest p ps d w h x = (
  λ i. (w x).1 ((h x).0 (IsIn-append_left x ps (p ∷ []) i), d x i),
  λ s. let r = (w x).0 s in elim (IsIn-append_cases x ps (p ∷ []) ((h x).1 r.0)) [ inl i ↦ i | inr j ↦ elim j [ inl e ↦ absurd (r.1 (sym e)) | inr a ↦ absurd a ] ],
)

pub same_or_not : (x p : ℕ) → (x ≡ p) ⊎ (x ≢ p)
same_or_not x p = by_test (nat_eq x p) refl
  where
    by_test : (b : Bool) → nat_eq x p ≡ b → (x ≡ p) ⊎ (x ≢ p)
    by_test true e = inl (eqb-true x p e)
    by_test false e = inr (λ f. absurd (cc (e, eq-eqb x p f)))

pub exactly_last : (subset rest p : ℕ) (ps : List ℕ) → IsBitSet subset p → IsWithout subset p rest → Exactly rest ps → Exactly subset (ps ++ p ∷ [])
exactly_last subset rest p ps s w h x = (
  λ i. elim (IsIn-append_cases x ps (p ∷ []) i) [ inl j ↦ ((w x).0 ((h x).0 j)).0 | inr j ↦ elim j [ inl e ↦ subst (IsBitSet subset) e s | inr a ↦ absurd a ] ],
  λ b. elim (same_or_not x p) [ inl e ↦ IsIn-append_right x ps (p ∷ []) (inl (sym e)) | inr n ↦ IsIn-append_left x ps (p ∷ []) ((h x).1 ((w x).1 (b, n))) ],
)

-- an order of a subset, split at its last process
pub record Ending (n subset : ℕ) (rest : ℕ → ℕ) (order : List ℕ) : Type 0 where
  pub before : List ℕ
  pub last : ℕ
  pub is : order ≡ before ++ last ∷ []
  pub in_subset : IsBitSet subset last
  pub below : last < n
  pub known : Known n before
  pub apart : (x : ℕ) → IsIn x before → x ≢ last
  pub exactly : Exactly (rest last) before

pub ending : (n subset : ℕ) (rest : ℕ → ℕ) (order : List ℕ) → ((p : ℕ) → IsBitSet subset p → IsWithout subset p (rest p)) → IsOrderOf n subset order → Ending n subset rest order
ending n subset rest [] w o = absurd (o.ordered.someone refl)
ending n subset rest (x ∷ xs) w o =
    let r = last_of x xs in
    let k = known_before n r.0 r.1 (subst (Known n) r.2 (known_from n (x ∷ xs) o.ordered)) in
    let e = subst (Exactly subset) r.2 (exactly_from subset (x ∷ xs) o.exactly) in
    let s : IsBitSet subset r.1 = (e r.1).0 (IsIn-append_right r.1 r.0 (r.1 ∷ []) (inl refl)) in
    record { before = r.0; last = r.1; is = r.2; in_subset = s; below = k.2; known = k.0; apart = k.1; exactly = exactly_before subset (rest r.1) r.1 r.0 k.1 (w r.1 s) e }

-- an order of a subset without p, followed by p
pub with_last : (n subset rest p : ℕ) (order : List ℕ) → IsBitSet subset p → p < n → IsWithout subset p rest → IsOrderOf n rest order → IsOrderOf n subset (order ++ p ∷ [])
with_last n subset rest p [] s l w o = absurd (o.ordered.someone refl)
with_last n subset rest p (x ∷ xs) s l w o =
    let e = exactly_from rest (x ∷ xs) o.exactly in
    record {
      ordered = order_from n x (xs ++ p ∷ []) (known_last n (x ∷ xs) p (known_from n (x ∷ xs) o.ordered) (λ y i. ((w y).0 ((e y).0 i)).1) l);
      exactly = exactly_to subset (x ∷ (xs ++ p ∷ [])) (exactly_last subset rest p (x ∷ xs) s w e);
    }

-- p alone
pub alone : (n subset rest p : ℕ) → IsBitSet subset p → p < n → IsWithout subset p rest → rest ≡ 0 → IsOrderOf n subset (p ∷ [])
alone n subset rest p s l w z = record {
  ordered = order_from n p [] (record { below = λ x i. elim i [ inl e ↦ subst (λ (y : ℕ). y < n) e l | inr a ↦ absurd a ]; differ = (tt, tt) });
  exactly = exactly_to subset (p ∷ []) (exactly_last subset rest p [] s w (λ x. (λ i. absurd i, λ b. absurd (zero_has_none x (subst (λ (r : ℕ). IsBitSet r x) z b)))));
}

empty_rest : (rest : ℕ) → Exactly rest [] → rest ≡ 0
empty_rest rest e = none_set rest (λ k s. (e k).1 s)

-- if someone moved before the last process, the order without the last process is an order, and begins in the same team
pub order_before : (n rest x : ℕ) (xs : List ℕ) → Known n (x ∷ xs) → Exactly rest (x ∷ xs) → IsOrderOf n rest (x ∷ xs)
order_before n rest x xs k e = record { ordered = order_from n x xs k; exactly = exactly_to rest (x ∷ xs) e }

pub begins_more : (c : RawChoice) (team : Team) (order : List ℕ) (p : ℕ) → BeginsIn c team order → BeginsIn c team (order ++ p ∷ [])
begins_more c team [] p b = absurd (cc b.1)
begins_more c team (x ∷ xs) p b = b

-- ---- the laws

-- process p moved last: it found a state, and left this one
abbrev pub LeavesLast : TypeTable → RawChoice → Team → ℕ → ℕ → ℕ → Type 0
LeavesLast t c team p rest state = (found : ℕ) × FindsState t c team p rest found × (next_of t c p found ≡ state)

pub finds_from : (t : TypeTable) (c : RawChoice) (team : Team) (rest p : ℕ) (before : List ℕ)
    → Known (length c.operations) before → Exactly rest before → BeginsIn c team (before ++ p ∷ []) → FindsState t c team p rest (state_after t c.state (operations_of c before))
finds_from t c team rest p [] k e b = inl (empty_rest rest e, mark b.0 b.1 b.2, refl)
  where
    mark : (q : ℕ) → slice_get (p ∷ []) 0 ≡ Some q → slice_get c.marks q ≡ Some team → slice_get c.marks p ≡ Some team
    mark q e m = let same : p ≡ q = cc in rw same m
finds_from t c team rest p (x ∷ xs) k e b = inr (x ∷ xs, order_before (length c.operations) rest x xs k e, b, refl)

pub leaves_to : (t : TypeTable) (c : RawChoice) (team : Team) (subset : ℕ) (rest : ℕ → ℕ) (state : ℕ) → ((p : ℕ) → IsBitSet subset p → IsWithout subset p (rest p))
    → LeavesState t c team subset state → (p : ℕ) × IsBitSet subset p × (p < length c.operations) × LeavesLast t c team p (rest p) state
leaves_to t c team subset rest state w h =
    let e = ending (length c.operations) subset rest h.0 w h.1 in (
      e.last,
      e.in_subset,
      e.below,
      (
        state_after t c.state (operations_of c e.before),
        finds_from t c team (rest e.last) e.last e.before e.known e.exactly (subst (BeginsIn c team) e.is h.2),
        sym (state_along t c e.before e.last) ∙ (ap (λ (o : List ℕ). state_after t c.state (operations_of c o)) (sym e.is) ∙ h.3),
      ),
    )

pub leaves_from : (t : TypeTable) (c : RawChoice) (team : Team) (subset rest p state : ℕ) → IsBitSet subset p → p < length c.operations → IsWithout subset p rest
    → LeavesLast t c team p rest state → LeavesState t c team subset state
leaves_from t c team subset rest p state s l w h = elim h.1 [
  | inl a ↦ (p ∷ [], alone (length c.operations) subset rest p s l w a.0, (p, refl, a.1), ap (next_of t c p) a.2 ∙ h.2)
  | inr b ↦ (
    b.0 ++ p ∷ [],
    with_last (length c.operations) subset rest p b.0 s l w b.1,
    begins_more c team b.0 p b.2,
    state_along t c b.0 p ∙ (ap (next_of t c p) b.3 ∙ h.2),
  )
]

-- no order is empty
pub leaves_some : (t : TypeTable) (c : RawChoice) (team : Team) (q : ℕ) → LeavesState t c team 0 q → ⊥
leaves_some t c team q h = some h.0 h.1.ordered.someone (exactly_from 0 h.0 h.1.exactly)
  where
    some : (order : List ℕ) → order ≢ [] → Exactly 0 order → ⊥
    some [] n e = n refl
    some (x ∷ xs) n e = zero_has_none x ((e x).0 (inl refl))
