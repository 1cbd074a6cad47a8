-- How great a number can be that is finite.
use Rattle.std.proofs.Common.{◌≡◌, ℕ, suc, ◌+◌, ◌<◌, ◌≤◌, inl, inr, List, [], ◌∷◌, length, refl, sym, subst, ◌∙◌, arith, Some}
use Rattle.std.specs.Prelude.{slice_index}
use Rattle.std.specs.List.{AllByRecursion, range_with_len}
use Rattle.std.proofs.lemmas.List.FromFn.{get_or-range_with_len, length-range_with_len}
use Rattle.cn_table.specs.TypeTable.{IsClosed, TypeTable, transition}
use Rattle.cn_table.specs.Run.{state_after}
use Rattle.cn_choice.specs.Discerning.{IsDiscerning, IsWitness}
use Rattle.cn_choice.specs.Live.{IsLive}
use Rattle.cn_choice.specs.RawChoices.{IsRawChoice, RawChoice}
use Rattle.cn_stocks.specs.Lasting.{IsAlwaysDiscerning, NoneLast}
use Rattle.cn_stocks.specs.Numbers.{IsNumber}
use Rattle.cn_stocks.specs.Splits.{SplitsFrom}
use Rattle.cn_stocks.proofs.LastingLemmas.Counts.{less_or_not}
use Rattle.cn_stocks.proofs.Times.{times_cons}
use Rattle.cn_telling.specs.Telling.{SomeTells, TellsFrom}
use Rattle.cn_telling.proofs.TellLemmas.{less_of_split}
use Rattle.cn_number_laws.specs.LastingStarts.{NoneLastFrom, SomeLast}
use Rattle.cn_number_laws.specs.ReachedStates.{HasReached}
use Rattle.cn_number_laws.proofs.Lists.{few, new_distinct, none_distinct}
use Rattle.cn_number_laws.proofs.Orbits.{some_or_none}
use Rattle.cn_number_laws.proofs.TellingStarts.{fewer_than_reached}

-- ---- from one start state

pub tells_few : (t : TypeTable) (start n : ℕ) (states : List ℕ) → HasReached t start states → NoneLastFrom t start → TellsFrom t n start → n < length states
tells_few t start n states has none h = omega (arith, fewer_than_reached t start h.0 h.3 none h.1 states has, h.2)

-- what splits tells with one operation less
less_tells : (t : TypeTable) (start n : ℕ) → 3 ≤ n → SplitsFrom t n start → (m : ℕ) × (n ≡ suc m) × TellsFrom t m start
less_tells t start n some h =
    let r = less_of_split t start h.0 (omega (arith, some, h.2)) h.3 in
    (length r.1, omega (arith, h.2, r.3), (r.1, (λ o k. h.1 o (omega (arith, k, r.2 o, times_cons o r.0 r.1))), refl, r.4))

module _ (t : TypeTable) (n : ℕ) (c : RawChoice) (is : IsRawChoice t n c) (w : IsWitness t c) (states : List ℕ) (has : HasReached t c.state states) where
  someone : 0 < length c.operations
  someone = omega (arith, is.someone_in_a.1, is.one_team_each, is.one_operation_each)

  -- a live operation leads to a second state
  two_states : (¬ IsLive t c → ¬ IsWitness t c) → ¬ (length states < 2)
  two_states not_live few_states = not_live (λ live.
      let first : ℕ = slice_index c.operations 0 in
      let after : ℕ = (transition t first c.state).1 in
      let most = few (c.state ∷ after ∷ []) states
      (new_distinct (λ q. q ≡ after) c.state (after ∷ []) (λ e. live 0 0 someone (sym e)) (refl, tt) (new_distinct (λ q. ⊥) after [] (λ h. h) tt none_distinct))
      (has c.state (record { operations = []; known = tt; last = refl }), (has after (record { operations = first ∷ []; known = (is.operations_known 0 0 someone, tt); last = refl }), tt)) in
      omega (arith, most, few_states)) w

  pub witness_few : (¬ IsLive t c → ¬ IsWitness t c) → (3 ≤ n → SplitsFrom t n c.state) → NoneLastFrom t c.state → n ≤ length states
  witness_few not_live splits none = elim (less_or_not n 3) [
    | inl small ↦ elim (less_or_not (length states) 2) [
      | inl l ↦ absurd (two_states not_live l)
      | inr enough ↦ omega (arith, small, enough)
    ]
    | inr some ↦ (let r = less_tells t c.state n some (splits some) in omega (arith, tells_few t c.state r.0 states has none r.2, r.1))
  ]

-- ---- of closed types

stays_in : (t : TypeTable) → IsClosed t → (os : List ℕ) (q : ℕ) → AllByRecursion (λ o. o < length t.operations) os → q < length t.states → state_after t q os < length t.states
stays_in t closed [] q a l = l
stays_in t closed (o ∷ os) q a l = stays_in t closed os (transition t o q).1 a.1 (closed o q a.0 l)

pub all_states : (t : TypeTable) → IsClosed t → (start : ℕ) → start < length t.states → HasReached t start (range_with_len 0 (length t.states))
all_states t closed start l q leads =
    let below : q < length t.states = subst (λ (x : ℕ). x < length t.states) leads.last (stays_in t closed leads.operations start leads.known l) in
    let place : 0 + q ≡ q = omega arith in
    (q, omega (arith, below, length-range_with_len 0 (length t.states)), get_or-range_with_len 0 (length t.states) q q below ∙ place)

pub some_tells_few : (t : TypeTable) (n : ℕ) → IsClosed t → NoneLast t → SomeTells t n → n < length t.states
some_tells_few t n closed none h =
    omega (arith, tells_few t h.0 n (range_with_len 0 (length t.states)) (all_states t closed h.0 h.1) (none h.0 h.1) h.2, length-range_with_len 0 (length t.states))

module _ (t : TypeTable) (closed : IsClosed t) (not_live : (n : ℕ) (c : RawChoice) → IsRawChoice t n c → ¬ IsLive t c → ¬ IsWitness t c)
    (splits : (n : ℕ) (c : RawChoice) → 3 ≤ n → IsRawChoice t n c → IsWitness t c → (c.state < length t.states) × SplitsFrom t n c.state) where
  pub discerning_few : (n : ℕ) → NoneLast t → IsDiscerning t n → n ≤ length t.states
  discerning_few n none (c, is, w) =
      omega (
        arith,
        witness_few t n c is w (range_with_len 0 (length t.states)) (all_states t closed c.state is.state_known) (not_live n c is) (λ some. (splits n c some is w).1) (none c.state is.state_known),
        length-range_with_len 0 (length t.states),
      )

  pub number_few : (n : ℕ) → (SomeLast t → IsAlwaysDiscerning t) → IsNumber t (Some n) → n ≤ length t.states
  number_few n always is = elim (some_or_none t) [
    | inl l ↦ absurd (is.2 (n + 1) (omega arith) (always l (n + 1) (omega (arith, is.0))))
    | inr none ↦ discerning_few n none is.1
  ]
