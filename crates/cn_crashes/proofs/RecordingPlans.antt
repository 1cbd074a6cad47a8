-- The plan of a recording witness none of whose orders that begin in team A leaves the start state.
use Rattle.std.proofs.Common.{◌≡◌, ◌≢◌, ℕ, ◌+◌, ◌-◌, ◌<◌, ◌≤◌, ◌⊎◌, inl, inr, List, [], ◌∷◌, length}
use Rattle.std.proofs.Common.{length-append, refl, sym, ◌∙◌, subst, arith, Bool, true, false}
use Rattle.std.proofs.Common.{nat_eq, nat_lt}
use Rattle.std.specs.Prelude.{slice_index, if◌then◌else◌}
use Rattle.std.proofs.lemmas.Bool.{cases_lt, eqb-true, eqb-false, ltb-true}
use Rattle.std.proofs.lemmas.List.Elements.{All-get_or}
use Rattle.cn_table.specs.TypeTable.{TypeTable}
use Rattle.cn_choice.specs.Canonical.{Choice, raw_choice_of}
use Rattle.cn_choice.specs.Moves.{move_of}
use Rattle.cn_choice.specs.OutcomeSets.{InOutcomeSet}
use Rattle.cn_choice.specs.RawChoices.{IsRawChoice}
use Rattle.cn_choice.specs.declared.team.Team.{Team}
use Rattle.cn_choice.specs.declared.team.Team.TheVariants.{A, B}
use Rattle.cn_outcomes.specs.LeftStates.{LeavesIn}
use Rattle.cn_outcomes.proofs.LastAnswers.{pair_parts}
use Rattle.cn_proto.specs.Order.{after, IsRun}
use Rattle.cn_proto.specs.Sound.{IsSound}
use Rattle.cn_proto.specs.Tournament.{team_of}
use Rattle.cn_proto.specs.Witnesses.{tournament_protocol}
use Rattle.cn_recover.specs.Recording.{IsRecordingWitness}
use Rattle.cn_recover.proofs.TeamSizes.{two_in_a}
use Rattle.cn_crashes.specs.RecoverableConsensusNumber.{SolvesRecoverableConsensus}
use Rattle.cn_crashes.specs.RecoverableRound.{RecoverablePlan}
use Rattle.cn_crashes.proofs.RoundExecutions.{solves}
use Rattle.cn_crashes.proofs.LawsBelow.{Tournaments}
use Rattle.cn_crashes.proofs.NodeStatus.{IsRight}
use Rattle.cn_crashes.proofs.RecordingDecision.{leaves_or_not}

-- team A for a state that its orders leave, else team B
judge_by : {X : Type 0} → X ⊎ ¬ X → Team
judge_by (inl h) = A
judge_by (inr n) = B

module _ (tournaments : Tournaments) (t : TypeTable) (n : ℕ) (d : Choice)
    (in_a : 1 ≤ length d.a) (is : IsRawChoice t n (raw_choice_of d))
    (w : IsRecordingWitness t (raw_choice_of d)) where
  sides_are : length d.a + length d.b ≡ n
  sides_are = sym (length-append d.a d.b) ∙ is.one_operation_each

  -- what a process sees of an order is left by it
  seen_left : (side : Team) (role response state : ℕ)
      → InOutcomeSet t (raw_choice_of d) side role (response, state)
      → LeavesIn t (raw_choice_of d) side state
  seen_left side role response state o =
      (o.0, o.1, o.2, (pair_parts t (raw_choice_of d) role o.0 response state o.3).1)

  leaves : (side : Team) (order : List ℕ) → IsRun n (team_of (length d.a)) side order
      → LeavesIn t (raw_choice_of d) side (after (move_of t (raw_choice_of d)) d.state order)
  leaves side [] r = absurd r.begins
  leaves side (x ∷ xs) r =
      let response = (move_of t (raw_choice_of d) x d.state).0 in
      let last = after (move_of t (raw_choice_of d)) d.state (x ∷ xs) in
      let run = subst (λ (k : ℕ). IsRun k (team_of (length d.a)) side (x ∷ xs)) (sym sides_are) r
      in
      seen_left side x response last
      (tournaments.outcomes t d side (x ∷ xs) x response run (0, refl, refl))

  -- a judge that is right about what the orders leave, and takes the start state for one of team B
  module _ (judge : ℕ → Team)
      (judges : (side : Team) (order : List ℕ) → IsRun n (team_of (length d.a)) side order
      → LeavesIn t (raw_choice_of d) side (after (move_of t (raw_choice_of d)) d.state order)
      → judge (after (move_of t (raw_choice_of d)) d.state order) ≡ side)
      (start_judged : judge d.state ≡ B) where
    abbrev pub plan : RecoverablePlan
    plan = record {
      round = tournament_protocol t d (λ role response state. judge state);
      operation = λ role. slice_index (raw_choice_of d).operations role;
      judge = judge;
      lone = nat_eq (length d.a) 1;
    }

    pub right : IsRight plan n (team_of (length d.a))
    right = record {
      right = λ side order r. judges side order r (leaves side order r);
      start_is_b = start_judged;
      no_way_back = λ f order r e.
          (let several : length d.a ≢ 1 = eqb-false (length d.a) 1 f in
          w.no_way_back_b ((two_in_a d).1 (apart_from_one (length d.a) in_a several))
          (subst (LeavesIn t (raw_choice_of d) B) e (leaves B order r)));
      loner = λ f role l e. first_of_a (eqb-true (length d.a) 1 f) role (nat_lt role (length d.a))
          refl e;
    }
      where
        apart_from_one : (k : ℕ) → 1 ≤ k → k ≢ 1 → 1 < k
        apart_from_one k l d = elim (cases_lt 1 k)
            [ inl less ↦ less | inr few ↦ absurd (d (omega (arith, l, few))) ]

        first_of_a : length d.a ≡ 1 → (role : ℕ) (b : Bool) → nat_lt role (length d.a) ≡ b
            → (if b then A else B) ≡ A → role ≡ 0
        first_of_a one role true e f = omega (arith, one, ltb-true role (length d.a) e)
        first_of_a one role false e f = absurd (cc f)

module _ (tournaments : Tournaments) (t : TypeTable) (n : ℕ) (two : 2 ≤ n) (d : Choice)
    (in_a : 1 ≤ length d.a) (is : IsRawChoice t n (raw_choice_of d))
    (w : IsRecordingWitness t (raw_choice_of d)) (home : ¬ LeavesIn t (raw_choice_of d) A d.state)
  where
    judge : ℕ → Team
    judge q = judge_by (leaves_or_not t (raw_choice_of d) A q)

    judges : (side : Team) (q : ℕ) → LeavesIn t (raw_choice_of d) side q → judge q ≡ side
    unfolding judge judge_by
    judges side q h = by_test side (leaves_or_not t (raw_choice_of d) A q) h
      where
        by_test : (side : Team) (test : LeavesIn t (raw_choice_of d) A q ⊎ ¬ LeavesIn t
            (raw_choice_of d) A q) → LeavesIn t (raw_choice_of d) side q → judge_by test ≡ side
        by_test A (inl i) h = refl
        by_test A (inr n) h = absurd (n h)
        by_test B (inl i) h = absurd (w.apart q i h)
        by_test B (inr n) h = refl

    start_judged : judge d.state ≡ B
    unfolding judge judge_by
    start_judged = by_test (leaves_or_not t (raw_choice_of d) A d.state)
      where
        by_test : (test : LeavesIn t (raw_choice_of d) A d.state ⊎ ¬ LeavesIn t (raw_choice_of d) A
            d.state) → judge_by test ≡ B
        by_test (inl i) = absurd (home i)
        by_test (inr n) = refl

    right_of_orders : (side : Team) (order : List ℕ) → IsRun n (team_of (length d.a)) side order
        → LeavesIn t (raw_choice_of d) side (after (move_of t (raw_choice_of d)) d.state order)
        → judge (after (move_of t (raw_choice_of d)) d.state order) ≡ side
    right_of_orders side order r h =
        judges side (after (move_of t (raw_choice_of d)) d.state order) h

    abbrev R : RecoverablePlan
    R = plan tournaments t n d in_a is w judge right_of_orders start_judged

    sound : IsSound R.round n (n - 1) (team_of (length d.a))
    sound = tournaments.sound t d n (λ role response state. judge state) is
        (λ side role response state o.
        judges side state (seen_left tournaments t n d in_a is w side role response state o))

    pub solves_by : SolvesRecoverableConsensus t n
    solves_by = solves t R n (n - 1) (team_of (length d.a)) sound
        (right tournaments t n d in_a is w judge right_of_orders start_judged) (λ role q. refl) two
        (tournaments.short t d n is) refl is.state_known (λ role l.
        All-get_or (λ o. o < length t.operations) (raw_choice_of d).operations role 0
        (subst (λ (k : ℕ). role < k) (sym is.one_operation_each) l) is.operations_known)
