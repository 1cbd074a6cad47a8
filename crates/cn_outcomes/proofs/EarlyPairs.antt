-- The pairs of a process from orders of one or two processes.
use Rattle.std.proofs.Common.{◌≡◌, ◌≢◌, ℕ, ◌<◌, ◌⊎◌, ◌↔◌, inl, inr, List, [], ◌∷◌, length, Some, refl, sym, ap, ◌∙◌, subst}
use Rattle.std.specs.Prelude.{slice_get, slice_index}
use Rattle.cn_table.specs.TypeTable.{TypeTable, transition}
use Rattle.cn_choice.specs.declared.team.Team.{Team}
use Rattle.cn_choice.specs.declared.team.Team.TheVariants.{A, B}
use Rattle.cn_choice.specs.Discerning.{IsWitness}
use Rattle.cn_outcomes.specs.EarlyPairs.{AreOutcomePairs}
use Rattle.cn_outcomes.specs.PairSets.{Has, HaveCommonPair}
use Rattle.cn_choice.specs.OutcomeSets.{InOutcomeSet}
use Rattle.cn_choice.specs.RawChoices.{RawChoice}
use Rattle.cn_choice.specs.Moves.{answer_of, next_of}
use Rattle.cn_outcomes.proofs.LastAnswers.{last_other}
use Rattle.cn_choice.proofs.OrderLemmas.LastMoves.{last_self, pair_whole}
use Rattle.cn_choice.proofs.OrderLemmas.LastMoves.{order_from}
use Rattle.cn_choice.proofs.OrderLemmas.ShortOrders.{alone_gets, known_two, second_gets}

module _ (t : TypeTable) (c : RawChoice) (team : Team) (j : ℕ) (l : j < length c.operations) where
  first_gets : (k : ℕ) → k < length c.operations → k ≢ j → slice_get c.marks j ≡ Some team → InOutcomeSet t c team j (answer_of t c j c.state, next_of t c k (next_of t c j c.state))
  first_gets k u apart m = (
    j ∷ k ∷ [],
    order_from (length c.operations) j (k ∷ []) (known_two (length c.operations) j k l u (λ e. apart (sym e))),
    (j, refl, m),
    pair_whole t c j (j ∷ k ∷ []) _ _ (last_other t c j k (j ∷ []) apart ∙ last_self t c j [] (λ i. absurd i)) refl,
  )

  -- the same, for the values of the code: the numbers of the operations, the state, and the pair of each step
  module _ (own start : ℕ) (is_own : own ≡ slice_index c.operations j) (is_start : start ≡ c.state) where
    pub alone_is : (r q : ℕ) → (r, q) ≡ transition t own start → slice_get c.marks j ≡ Some team → InOutcomeSet t c team j (r, q)
    alone_is r q e m = subst (λ (p : ℕ × ℕ). InOutcomeSet t c team j p) (sym (e ∙ rw (is_own, is_start) refl)) (alone_gets t c team j l m)

    pub first_is : (k other r q s after : ℕ) → k < length c.operations → k ≢ j → other ≡ slice_index c.operations k → (r, q) ≡ transition t own start → (s, after) ≡ transition t other q
        → slice_get c.marks j ≡ Some team → InOutcomeSet t c team j (r, after)
    first_is k other r q s after u apart is_other e f m =
        let one : r ≡ answer_of t c j c.state = ap (λ (p : ℕ × ℕ). p.0) e ∙ rw (is_own, is_start) refl in
        let found : q ≡ next_of t c j c.state = ap (λ (p : ℕ × ℕ). p.1) e ∙ rw (is_own, is_start) refl in
        let two : after ≡ next_of t c k (next_of t c j c.state) = ap (λ (p : ℕ × ℕ). p.1) f ∙ rw (is_other, found) refl in
        rw (one, two) (first_gets k u apart m)

    pub second_is : (i other r found s q : ℕ) → i < length c.operations → i ≢ j → other ≡ slice_index c.operations i → (s, found) ≡ transition t other start → (r, q) ≡ transition t own found
        → slice_get c.marks i ≡ Some team → InOutcomeSet t c team j (r, q)
    second_is i other r found s q u apart is_other e f m =
        let left : found ≡ next_of t c i c.state = ap (λ (p : ℕ × ℕ). p.1) e ∙ rw (is_other, is_start) refl in
        let one : r ≡ answer_of t c j (next_of t c i c.state) = ap (λ (p : ℕ × ℕ). p.0) f ∙ rw (is_own, left) refl in
        let two : q ≡ next_of t c j (next_of t c i c.state) = ap (λ (p : ℕ × ℕ). p.1) f ∙ rw (is_own, left) refl in
        rw (one, two) (second_gets t c team j l i u apart m)

  pub one_given : (set : List ℕ) (a b : ℕ) → InOutcomeSet t c team j (a, b) → ((r q : ℕ) → Has set r q ↔ ((r ≡ a) × (q ≡ b))) → AreOutcomePairs t c team j set
  one_given set a b g h r q s = let e = (h r q).0 s in subst (λ (x : ℕ). InOutcomeSet t c team j (x, q)) (sym e.0) (subst (λ (y : ℕ). InOutcomeSet t c team j (a, y)) (sym e.1) g)

  pub more_given : (set more : List ℕ) (a b : ℕ) → AreOutcomePairs t c team j set → InOutcomeSet t c team j (a, b)
      → ((r q : ℕ) → Has more r q ↔ (Has set r q ⊎ ((r ≡ a) × (q ≡ b)))) → AreOutcomePairs t c team j more
  more_given set more a b old g h r q s = elim ((h r q).0 s) [
    | inl o ↦ old r q o
    | inr e ↦ subst (λ (x : ℕ). InOutcomeSet t c team j (x, q)) (sym e.0) (subst (λ (y : ℕ). InOutcomeSet t c team j (a, y)) (sym e.1) g)
  ]

pub given_meet : (t : TypeTable) (c : RawChoice) (j : ℕ) (from_a from_b : List ℕ) → AreOutcomePairs t c A j from_a → AreOutcomePairs t c B j from_b → HaveCommonPair from_a from_b → ¬ IsWitness t c
given_meet t c j from_a from_b a b h w = w j (h.0, h.1) (a h.0 h.1 h.2) (b h.0 h.1 h.3)
