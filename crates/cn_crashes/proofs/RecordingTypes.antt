-- An n-recording type solves recoverable consensus for n processes.
use Rattle.std.proofs.Common.{◌≡◌, ℕ, zero, suc, ◌<◌, ◌≤◌, inl, inr, List, [], ◌∷◌, length, map}
use Rattle.std.proofs.Common.{refl, sym, ap, ◌∙◌, arith, Some}
use Rattle.std.specs.Prelude.{slice_get, slice_index}
use Rattle.std.proofs.lemmas.List.Elements.{All-from_recursion, recursion_from_All}
use Rattle.cn_table.specs.Run.{state_after}
use Rattle.cn_table.specs.TypeTable.{TypeTable}
use Rattle.cn_choice.specs.Canonical.{Choice, raw_choice_of}
use Rattle.cn_choice.specs.OutcomeSets.{BeginsIn}
use Rattle.cn_choice.specs.RawChoices.{IsRawChoice, RawChoice}
use Rattle.cn_choice.specs.Renumbering.{Embeds, with_other_teams}
use Rattle.cn_choice.specs.declared.team.Team.TheVariants.{A, B}
use Rattle.cn_choice.proofs.ChoiceLemmas.Embeddings.{begins_embeds, operations_embed, order_embeds}
use Rattle.cn_outcomes.specs.LeftStates.{LeavesIn}
use Rattle.cn_recover.specs.Recording.{IsRecording, IsRecordingWitness}
use Rattle.cn_recover.proofs.TeamSizes.{two_in_b}
use Rattle.cn_crashes.specs.RecoverableConsensusNumber.{SolvesRecoverableConsensus}
use Rattle.cn_crashes.proofs.LawsBelow.{Coverage, Renumberings, Tournaments}
use Rattle.cn_crashes.proofs.RecordingDecision.{leaves_or_not}
use Rattle.cn_crashes.proofs.RecordingPlans.{solves_by}

-- two processes, with exchanged numbers
flip : ℕ → ℕ
flip zero = 1
flip (suc i) = 0

abbrev pair : ℕ → ℕ → ℕ → Choice
pair state x y = record { state = state; a = x ∷ []; b = y ∷ [] }

flipped : (state x y : ℕ) → Embeds flip (raw_choice_of (pair state y x))
    (with_other_teams (raw_choice_of (pair state x y)))
unfolding flip
flipped state x y = record {
  same_state = refl;
  inside = λ i l. inside i;
  apart =
      apart;
  operation = operation;
  team = team;
}
  where
    inside : (i : ℕ) → flip i < 2
    inside zero = omega arith
    inside (suc i) = omega arith

    apart : (i j : ℕ) → i < 2 → j < 2 → flip i ≡ flip j → i ≡ j
    apart zero zero l u e = refl
    apart zero (suc j) l u e = absurd (omega (arith, e))
    apart (suc i) zero l u e = absurd (omega (arith, e))
    apart (suc i) (suc j) l u e = omega (arith, l, u)

    operation : (i : ℕ) → i < 2 → slice_index (y ∷ x ∷ []) i ≡ slice_index (x ∷ y ∷ []) (flip i)
    operation zero l = refl
    operation (suc zero) l = refl
    operation (suc (suc i)) l = absurd (omega (arith, l))

    team : (i : ℕ) → i < 2 → slice_get (A ∷ B ∷ []) i ≡ slice_get (B ∷ A ∷ []) (flip i)
    team zero l = refl
    team (suc zero) l = refl
    team (suc (suc i)) l = absurd (omega (arith, l))

-- what orders that begin in A leave after the exchange, orders that begin in B have left before
back_before : (t : TypeTable) (state x y q : ℕ) → LeavesIn t (raw_choice_of (pair state y x)) A q
    → LeavesIn t (raw_choice_of (pair state x y)) B q
back_before t state x y q o =
    let d : RawChoice = raw_choice_of (pair state y x) in
    let c : RawChoice = with_other_teams (raw_choice_of (pair state x y)) in
    let e = flipped state x y in
    let known = recursion_from_All (λ p. p < length d.operations) o.0 o.1.known in (
      map flip o.0,
      order_embeds flip d c e o.0 o.1,
      in_b (map flip o.0) (begins_embeds flip d c e A o.0 known o.2),
      ap (state_after t c.state) (sym (operations_embed flip d c e o.0 known)) ∙ o.3,
    )
  where
    mark_b : (first : ℕ) → slice_get (B ∷ A ∷ []) first ≡ Some A
        → slice_get (A ∷ B ∷ []) first ≡ Some B
    mark_b zero e = absurd (cc e)
    mark_b (suc zero) e = refl
    mark_b (suc (suc i)) e = absurd (cc e)

    in_b : (order : List ℕ) → BeginsIn (with_other_teams (raw_choice_of (pair state x y))) A order
        → BeginsIn (raw_choice_of (pair state x y)) B order
    in_b order (first, e, f) = (first, e, mark_b first f)

module _ (tournaments : Tournaments) (renumberings : Renumberings) where
  by_lists : (t : TypeTable) (n : ℕ) → 2 ≤ n → (state : ℕ) (a b : List ℕ) → length a ≤ length b
      → 1 ≤ length a → 1 ≤ length b
      → IsRawChoice t n (raw_choice_of (record { state = state; a = a; b = b }))
      → IsRecordingWitness t (raw_choice_of (record { state = state; a = a; b = b }))
      → LeavesIn t (raw_choice_of (record { state = state; a = a; b = b })) A state
      → SolvesRecoverableConsensus t n
  by_lists t n two state [] b less in_a in_b is w back = absurd (omega (arith, in_a))
  by_lists t n two state (x ∷ a) [] less in_a in_b is w back = absurd (omega (arith, in_b))
  by_lists t n two state (x ∷ a) (y ∷ z ∷ b) less in_a in_b is w back =
      absurd (w.no_way_back_a ((two_in_b (record { state = state; a = x ∷ a; b = y ∷ z ∷ b })).1
      (omega arith)) back)
  by_lists t n two state (x ∷ z ∷ a) (y ∷ []) less in_a in_b is w back =
      absurd (omega (arith, less))
  by_lists t n two state (x ∷ []) (y ∷ []) less in_a in_b is w back =
      let known = recursion_from_All (λ o. o < length t.operations) (x ∷ y ∷ []) is.operations_known
      in
      let fits : IsRawChoice t n (raw_choice_of (pair state y x)) = record {
        state_known = is.state_known;
        operations_known = All-from_recursion (λ o. o < length t.operations) (y ∷ x ∷ []) (
          known.1.0,
          (known.0, tt),
        );
        one_operation_each = is.one_operation_each;
        one_team_each = is.one_team_each;
        someone_in_a = is.someone_in_a;
        someone_in_b = is.someone_in_b;
      } in
      let c : RawChoice = raw_choice_of (pair state x y) in
      let recorded = renumberings.some t flip (raw_choice_of (pair state y x)) (with_other_teams c)
      (flipped state x y) (renumberings.exchanged t c w) in
      solves_by tournaments t n two (pair state y x) (omega arith) fits recorded (λ o.
      w.apart state back (back_before t state x y state o))

  pub recording_solves : Coverage → (t : TypeTable) (n : ℕ) → 2 ≤ n → IsRecording t n
      → SolvesRecoverableConsensus t n
  recording_solves coverage t n two w =
      let f = coverage t n w.0 w.1 in
      let d = f.0 in
      let recorded : IsRecordingWitness t (raw_choice_of d) = elim f.1.renumbered [
        | inl r ↦ renumberings.some t r.0 (raw_choice_of d) w.0 r.1 w.2
        | inr r ↦ renumberings.some t r.0 (raw_choice_of d) (with_other_teams w.0) r.1
            (renumberings.exchanged t w.0 w.2)
      ] in
      let in_a = f.1.canonical.someone_in_a in
      let in_b : 1 ≤ length d.b = omega (arith, in_a, f.1.canonical.a_not_longer) in
      elim (leaves_or_not t (raw_choice_of d) A d.state) [
        | inl back ↦ by_lists t n two d.state d.a d.b f.1.canonical.a_not_longer in_a in_b f.1.for_n
            recorded back
        | inr home ↦ solves_by tournaments t n two d in_a f.1.for_n recorded home
      ]
