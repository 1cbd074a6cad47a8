-- A witness of a part of a type is one of the type, and the other way round.
use Rattle.std.proofs.Common.{◌≡◌, ℕ, ◌<◌, ◌↔◌, List, [], ◌∷◌, length, refl, sym, ap, ◌∙◌, subst, All}
use Rattle.std.specs.List.{AllByRecursion}
use Rattle.std.proofs.lemmas.List.Elements.{recursion_from_All}
use Rattle.cn_table.specs.Run.{responses_along, state_after}
use Rattle.cn_table.specs.TypeTable.{TypeTable, transition}
use Rattle.cn_choice.specs.declared.team.Team.{Team}
use Rattle.cn_choice.specs.declared.team.Team.TheVariants.{A, B}
use Rattle.cn_choice.specs.Discerning.{IsDiscerning, IsWitness}
use Rattle.cn_choice.specs.Orders.{IsOrder}
use Rattle.cn_choice.specs.OutcomeSets.{InOutcomeSet, operations_of, response_of}
use Rattle.cn_choice.specs.RawChoices.{IsRawChoice, RawChoice}
use Rattle.cn_choice.proofs.OrderLemmas.LastMoves.{after, along, pair_whole}
use Rattle.cn_outcomes.specs.LeftStates.{LeavesIn}
use Rattle.cn_outcomes.proofs.LastAnswers.{pair_parts}
use Rattle.cn_recover.specs.Recording.{IsRecording, IsRecordingWitness}
use Rattle.cn_number_laws.specs.Parts.{IsPart, with_start}

module _ (f : ℕ → ℕ) (part t : TypeTable) (p : IsPart f part t) where
  -- ---- runs

  same_responses : (os : List ℕ) (q : ℕ) → AllByRecursion (λ o. o < length part.operations) os → q < length part.states → responses_along part q os ≡ responses_along t (f q) os
  same_responses [] q a l = refl
  same_responses (o ∷ os) q a l =
      ap (λ (rs : List ℕ). (transition part o q).0 ∷ rs)
      (same_responses os (transition part o q).1 a.1 (p.closed o q a.0 l) ∙ ap (λ (x : ℕ). responses_along t x os) (p.next o q a.0 l))
      ∙ ap (λ (r : ℕ). r ∷ responses_along t (transition t o (f q)).1 os) (p.response o q a.0 l)

  same_state : (os : List ℕ) (q : ℕ) → AllByRecursion (λ o. o < length part.operations) os → q < length part.states → f (state_after part q os) ≡ state_after t (f q) os
  same_state [] q a l = refl
  same_state (o ∷ os) q a l = same_state os (transition part o q).1 a.1 (p.closed o q a.0 l) ∙ ap (λ (x : ℕ). state_after t x os) (p.next o q a.0 l)

  inside : (os : List ℕ) (q : ℕ) → AllByRecursion (λ o. o < length part.operations) os → q < length part.states → state_after part q os < length part.states
  inside [] q a l = l
  inside (o ∷ os) q a l = inside os (transition part o q).1 a.1 (p.closed o q a.0 l)

  module _ (n : ℕ) (c : RawChoice) (is : IsRawChoice part n c) where
    known : (order : List ℕ) → AllByRecursion (λ i. i < length c.operations) order → AllByRecursion (λ o. o < length part.operations) (operations_of c order)
    known [] a = tt
    known (i ∷ order) a = (is.operations_known i 0 a.0, known order a.1)

    known_in : (order : List ℕ) → IsOrder (length c.operations) order → AllByRecursion (λ o. o < length part.operations) (operations_of c order)
    known_in order o = known order (recursion_from_All (λ i. i < length c.operations) order o.known)

    -- ---- pairs

    same_along : (j : ℕ) (order : List ℕ) → IsOrder (length c.operations) order → along part c j order ≡ along t (with_start f c) j order
    same_along j order o = ap (response_of j order) (same_responses (operations_of c order) c.state (known_in order o) is.state_known)

    same_after : (order : List ℕ) → IsOrder (length c.operations) order → f (after part c order) ≡ after t (with_start f c) order
    same_after order o = same_state (operations_of c order) c.state (known_in order o) is.state_known

    after_inside : (order : List ℕ) → IsOrder (length c.operations) order → after part c order < length part.states
    after_inside order o = inside (operations_of c order) c.state (known_in order o) is.state_known

    to_type : (team : Team) (j r q : ℕ) → InOutcomeSet part c team j (r, q) → InOutcomeSet t (with_start f c) team j (r, f q)
    to_type team j r q o =
        let seen = pair_parts part c j o.0 r q o.3 in
        (o.0, o.1, o.2, pair_whole t (with_start f c) j o.0 r (f q) (sym (same_along j o.0 o.1) ∙ seen.0) (sym (same_after o.0 o.1) ∙ ap f seen.1))

    -- what is seen in the part, of which the type sees the state under its other number
    abbrev Before : Team → ℕ → ℕ → ℕ → Type 0
    Before team j r q = (s : ℕ) × (s < length part.states) × (f s ≡ q) × InOutcomeSet part c team j (r, s)

    to_part : (team : Team) (j r q : ℕ) → InOutcomeSet t (with_start f c) team j (r, q) → Before team j r q
    to_part team j r q o =
        let seen = pair_parts t (with_start f c) j o.0 r q o.3 in (
          after part c o.0,
          after_inside o.0 o.1,
          same_after o.0 o.1 ∙ seen.1,
          (o.0, o.1, o.2, pair_whole part c j o.0 r (after part c o.0) (same_along j o.0 o.1 ∙ seen.0) refl),
        )

    pub witness_of_both : IsWitness part c ↔ IsWitness t (with_start f c)
    witness_of_both = (
      λ w j pair a b.
          let x = to_part A j pair.0 pair.1 a in
          let y = to_part B j pair.0 pair.1 b in
          let same : y.0 ≡ x.0 = p.apart y.0 x.0 y.1 x.1 (y.2 ∙ sym x.2) in
          w j (pair.0, x.0) x.3 (subst (λ (s : ℕ). InOutcomeSet part c B j (pair.0, s)) same y.3),
      λ w j pair a b. w j (pair.0, f pair.1) (to_type A j pair.0 pair.1 a) (to_type B j pair.0 pair.1 b),
    )

    -- ---- states

    left_in_type : (team : Team) (q : ℕ) → LeavesIn part c team q → LeavesIn t (with_start f c) team (f q)
    left_in_type team q o = (o.0, o.1, o.2, sym (same_after o.0 o.1) ∙ ap f o.3)

    left_in_part : (team : Team) (q : ℕ) → LeavesIn t (with_start f c) team q → (s : ℕ) × (s < length part.states) × (f s ≡ q) × LeavesIn part c team s
    left_in_part team q o = (after part c o.0, after_inside o.0 o.1, same_after o.0 o.1 ∙ o.3, (o.0, o.1, o.2, refl))

    back_to_start : (team : Team) → LeavesIn t (with_start f c) team (f c.state) → LeavesIn part c team c.state
    back_to_start team o =
        let x = left_in_part team (f c.state) o in
        subst (LeavesIn part c team) (p.apart x.0 c.state x.1 is.state_known x.2) x.3

    pub recording_of_both : IsRecordingWitness part c ↔ IsRecordingWitness t (with_start f c)
    recording_of_both = (
      λ w. record {
        apart = λ q a b.
            let x = left_in_part A q a in
            let y = left_in_part B q b in
            let same : y.0 ≡ x.0 = p.apart y.0 x.0 y.1 x.1 (y.2 ∙ sym x.2) in
            w.apart x.0 x.3 (subst (LeavesIn part c B) same y.3);
        no_way_back_a = λ h o. w.no_way_back_a h (back_to_start A o);
        no_way_back_b = λ h o. w.no_way_back_b h (back_to_start B o);
      },
      λ w. record {
        apart = λ q a b. w.apart (f q) (left_in_type A q a) (left_in_type B q b);
        no_way_back_a = λ h o. w.no_way_back_a h (left_in_type A c.state o);
        no_way_back_b = λ h o. w.no_way_back_b h (left_in_type B c.state o);
      },
    )

    choice_of_type : IsRawChoice t n (with_start f c)
    choice_of_type = record {
      state_known = p.known c.state is.state_known;
      operations_known = subst (λ (m : ℕ). All (λ (o : ℕ). o < m) c.operations) p.operations is.operations_known;
      one_operation_each = is.one_operation_each;
      one_team_each = is.one_team_each;
      someone_in_a = is.someone_in_a;
      someone_in_b = is.someone_in_b;
    }

  pub discerning_in_type : (n : ℕ) → IsDiscerning part n → IsDiscerning t n
  discerning_in_type n (c, is, w) = (with_start f c, choice_of_type n c is, (witness_of_both n c is).0 w)

  pub recording_in_type : (n : ℕ) → IsRecording part n → IsRecording t n
  recording_in_type n (c, is, w) = (with_start f c, choice_of_type n c is, (recording_of_both n c is).0 w)
