-- Sets of states, as lists.
use Rattle.std.proofs.Common.{◌≡◌, ◌∙◌, ◌↔◌, ℕ, ◌<◌, inl, inr, List, [], ◌∷◌, ◌++◌, append-nil, length, get_or, replicate, All, Contains, IsBitSet, ap, subst, sym, arith}
use Rattle.std.specs.Prelude.{AllPairs, eqb, slice_index, slice_index_or}
use Rattle.std.specs.Int.{bit_at}
use Rattle.std.specs.List.{range_with_len}
use Rattle.std.proofs.lemmas.List.{length-map, get_or-map}
use Rattle.std.proofs.lemmas.List.FromFn.{get_or-range_with_len, length-range_with_len}
use Rattle.std.proofs.lemmas.List.Kept.{AllPairs-filter}
use Rattle.std.proofs.lemmas.List.Elements.{All-append, All-cons, All-head, All-map, All-replicate, All-tail}
use Rattle.cn_table.specs.Run.{state_after}
use Rattle.cn_table.specs.TypeTable.{IsTypeTable, TypeTable, transition}
use Rattle.cn_table.proofs.ReachLemmas.{next_below}
use Rattle.cn_choice.specs.OutcomeSets.{operations_of}
use Rattle.cn_choice.specs.RawChoices.{IsRawChoice, RawChoice}
use Rattle.cn_choice.specs.declared.team.Team.{Team}
use Rattle.cn_outcomes.specs.LeftStates.{LeavesIn}
use Rattle.cn_stocks.specs.Leaving.{IsLasting, Leaves}
use Rattle.cn_stocks.specs.declared.lasting.search.First.{First}
use Rattle.cn_stocks.specs.declared.lasting.search.First.TheVariants.{Single, Many}
use Rattle.cn_stocks.specs.declared.lasting.search.Lasting.{Lasting}
use Rattle.cn_table.specs.declared.elements.State.{State}
use Rattle.cn_outcomes.specs.Bits.{members}
use Rattle.cn_reasons.specs.Known.{IsKnownState}
use Rattle.cn_reasons.specs.States.{numbers_of, AreStates}

range_ascending : (from n : ℕ) → AllPairs (λ (q p : ℕ). q < p) (range_with_len from n)
range_ascending from n i j d less inside =
    let many = length-range_with_len from n in
    let first = get_or-range_with_len from n i d (omega (arith, less, inside, many)) in
    let second = get_or-range_with_len from n j d (omega (arith, inside, many)) in
    omega (arith, first, second, less)

-- the members of a set ascend
pub members_ascending : (set : ℕ) → AllPairs (λ (q p : ℕ). q < p) (members set)
unfolding members
members_ascending set = AllPairs-filter (λ (q p : ℕ). q < p) (λ q. eqb (bit_at set q) 1) (range_with_len 0 16) (range_ascending 0 16)

-- the states whose numbers are of the table are of the table
pub all_known_states : (t : TypeTable) (states : List State) → ((q : ℕ) → Contains (numbers_of states) q → q < length t.states) → All (IsKnownState t) states
all_known_states t states known i d less =
    known (get_or states i d).0 (i, rw (length-map states (λ (q : State). q.0)) less, get_or-map (λ (q : State). q.0) states i d (get_or states i d).0 less)

-- all states of a set
pub states_of_members : (set : ℕ) (states : List State) (left items : List ℕ) → left ≡ [] → numbers_of states ++ left ≡ members set → items ≡ members set
    → ((q : ℕ) → Contains items q ↔ IsBitSet set q) → AreStates (IsBitSet set) states
states_of_members set states left items none all listed same =
    let whole : numbers_of states ≡ members set = sym (append-nil (numbers_of states)) ∙ (ap (λ xs. numbers_of states ++ xs) (sym none) ∙ all) in record {
      listed = λ q. rw (whole, ← listed) (same q);
      ascending = rw whole (members_ascending set);
    }

pub same_states : (P Q : ℕ → Type 0) (states : List State) → ((q : ℕ) → P q ↔ Q q) → AreStates P states → AreStates Q states
same_states P Q states same are = record {
  listed = λ q. (λ at. (same q).0 ((are.listed q).0 at), λ is. (are.listed q).1 ((same q).1 is));
  ascending = are.ascending;
}

-- ---- runs stay within the states

module _ (t : TypeTable) (is : IsTypeTable t) where
  after_known : (os : List ℕ) → All (λ o. o < length t.operations) os → (state : ℕ) → state < length t.states → state_after t state os < length t.states
  after_known [] ok state l = l
  after_known (o ∷ os) ok state l =
      after_known os (All-tail (λ o. o < length t.operations) o os ok) (transition t o state).1 (next_below t o state is (All-head (λ o. o < length t.operations) o os ok) l)

  -- an order of a choice of the table leaves a state of the table
  pub left_known : (c : RawChoice) (n : ℕ) → IsRawChoice t n c → (team : Team) (q : ℕ) → LeavesIn t c team q → q < length t.states
  left_known c n fits team q h =
      let known = All-map (λ o. o < length t.operations) (λ p. slice_index c.operations p) h.0 (λ i d less. fits.operations_known (slice_index_or h.0 i d) 0 (h.1.known i d less)) in
      subst (λ (p : ℕ). p < length t.states) h.3 (after_known (operations_of c h.0) known c.state fits.state_known)

  -- so do orders of operations that last
  pub lasting_known : (l : Lasting) → IsLasting t l → (first : First) (q : ℕ) → Leaves t l first q → q < length t.states
  lasting_known l lasts Single q h =
      subst (λ (p : ℕ). p < length t.states) h.1
      (after_known (l.single.0 ∷ replicate h.0 l.many.0) (All-cons Known l.single.0 (replicate h.0 l.many.0) lasts.single_known (All-replicate Known h.0 l.many.0 lasts.many_known)) l.start.0
      lasts.start_known)
    where
      Known : ℕ → Type 0
      Known o = o < length t.operations
  lasting_known l lasts Many q h = elim h [
    | inl a ↦ subst (λ (p : ℕ). p < length t.states) a.1 (after_known (replicate a.0 l.many.0) (All-replicate Known a.0 l.many.0 lasts.many_known) l.start.0 lasts.start_known)
    | inr b ↦ subst (λ (p : ℕ). p < length t.states) b.2
        (after_known (l.many.0 ∷ replicate b.0 l.many.0 ++ l.single.0 ∷ replicate b.1 l.many.0)
        (All-cons Known l.many.0 (replicate b.0 l.many.0 ++ l.single.0 ∷ replicate b.1 l.many.0) lasts.many_known
        (All-append Known (replicate b.0 l.many.0) (l.single.0 ∷ replicate b.1 l.many.0) (All-replicate Known b.0 l.many.0 lasts.many_known)
        (All-cons Known l.single.0 (replicate b.1 l.many.0) lasts.single_known (All-replicate Known b.1 l.many.0 lasts.many_known))))
        l.start.0 lasts.start_known)
  ]
    where
      Known : ℕ → Type 0
      Known o = o < length t.operations
