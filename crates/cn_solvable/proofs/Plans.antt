-- The protocol of each plan is a consensus protocol, and decides as the rounds of the plan do.
use Rattle.std.proofs.Common.{◌≡◌, ℕ, ◌<◌, ◌≤◌, List, length, refl, sym, subst, Bool}
use Rattle.std.proofs.lemmas.List.Elements.{All-get_or}
use Rattle.std.specs.Prelude.{slice_index}
use Rattle.cn_choice.specs.Canonical.{raw_choice_of}
use Rattle.cn_proto.specs.Plan.{IsPlan, Plan, nodes_of, processes_of, protocol_of}
use Rattle.cn_proto.specs.Sound.{IsSound}
use Rattle.cn_proto.specs.Tournament.{team_of}
use Rattle.cn_agree.specs.Schedules.{decisions_after}
use Rattle.cn_consensus.specs.Configuration.{after, decision, initial}
use Rattle.cn_consensus.specs.Consensus.{IsConsensusProtocol, IsSchedule}
use Rattle.cn_consensus.specs.Protocol.{IsProtocolOf}
use Rattle.cn_consensus.specs.Types.{all_of}
use Rattle.cn_solvable.specs.RoundProtocol.{Mirrors, listed, plan_protocol, world_after}
use Rattle.cn_solvable.proofs.Rounds as rounds

-- what laws of `cn_proto` say
abbrev pub PlansAreSound : Type 0
PlansAreSound = (plan : Plan) → IsPlan plan
    → IsSound (protocol_of plan) (processes_of plan) (nodes_of plan)
    (team_of (length plan.choice.a))

abbrev pub PlansAreShort : Type 0
PlansAreShort = (plan : Plan) → IsPlan plan → (process : ℕ) → process < processes_of plan
    → length ((protocol_of plan).path process) ≤ nodes_of plan

module _ (sound : PlansAreSound) (plan : Plan) (is : IsPlan plan) where
  abbrev op : ℕ → ℕ
  op role = slice_index (raw_choice_of plan.choice).operations role

  operation_known : (role : ℕ) → role < processes_of plan → op role < length plan.table.operations
  operation_known role l =
      All-get_or (λ o. o < length plan.table.operations) (raw_choice_of plan.choice).operations
      role 0 (subst (λ (k : ℕ). role < k) (sym is.fits.fits.one_operation_each) l)
      is.fits.fits.operations_known

  pub of_type : IsProtocolOf (all_of plan.table) (processes_of plan) (plan_protocol plan)
  of_type =
      rounds.of_type plan.table (protocol_of plan) op (processes_of plan)
      (team_of (length plan.choice.a)) (sound plan is) (λ role q. refl) is.fits.some
      is.fits.fits.state_known operation_known

  pub consensus : rounds.SoundProtocolsAgree → PlansAreShort
      → IsConsensusProtocol (all_of plan.table) (processes_of plan) (plan_protocol plan)
  consensus agree short =
      rounds.consensus plan.table (protocol_of plan) op (processes_of plan)
      (team_of (length plan.choice.a)) (sound plan is) (λ role q. refl) is.fits.some agree
      (short plan is)

  module _ (inputs : ℕ → Bool) (schedule : List ℕ) (h : IsSchedule (processes_of plan) schedule)
    where
      pub mirrors : Mirrors (protocol_of plan) (processes_of plan) (nodes_of plan)
          (world_after plan (listed (processes_of plan) inputs) schedule)
          (after (all_of plan.table) (plan_protocol plan) (initial (plan_protocol plan) inputs)
          schedule)
      mirrors =
          rounds.mirrors plan.table (protocol_of plan) op (processes_of plan)
          (team_of (length plan.choice.a)) (sound plan is) (λ role q. refl) is.fits.some inputs
          schedule h

      pub decisions : decisions_after plan (listed (processes_of plan) inputs) schedule
          ≡ listed (processes_of plan) (decision (plan_protocol plan) (after (all_of plan.table)
          (plan_protocol plan) (initial (plan_protocol plan) inputs) schedule))
      decisions =
          rounds.decisions plan.table (protocol_of plan) op (processes_of plan)
          (team_of (length plan.choice.a)) (sound plan is) (λ role q. refl) is.fits.some inputs
          schedule h
