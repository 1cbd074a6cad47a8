-- The headline: what the number found for a type says, and what the plan of its witness does.
use Rattle.std.specs.Prelude.{◌≡◌, ℕ, ◌<◌, List, length, Some}
use Rattle.std.specs.List.{AllByRecursion}
use Rattle.cn_table.specs.TypeTable.{TypeTable}
use Rattle.cn_choice.specs.Canonical.{Choice}
use Rattle.cn_choice.specs.Discerning.{IsNumberUpTo}
use Rattle.cn_finding.specs.Finding.{Finding}
use Rattle.cn_proto.specs.Plan.{Plan, processes_of, protocol_of, IsPlan}
use Rattle.cn_agree.specs.Consensus.{IsConsensus}
use Rattle.cn_agree.specs.Schedules.{decisions_after}
use Rattle.cn_log.specs.Linearized.{IsLinearized}
use Rattle.cn_log.specs.Log.{IsEventList}
use Rattle.cn_log.specs.Opening.{IsOpening, Opening, setting_of}
use Rattle.cn_log.specs.declared.event.Event.{Event}

-- for all inputs, one for each process, and every schedule: the decisions are equal, each is the
-- input of a participant, and a process has decided once it occurs 4 (n - 1) times, or earlier
abbrev pub ReachesConsensus : Type 0 → Plan → Type 0
ReachesConsensus V plan =
    (inputs : List V) (schedule : List ℕ) → length inputs ≡ processes_of plan
    → AllByRecursion (λ p. p < processes_of plan) schedule
    → IsConsensus (protocol_of plan) (processes_of plan) inputs schedule
    (decisions_after plan inputs schedule)

-- for every opening with the plan and all events: the answers are those of one sequential run in
-- log order
abbrev pub ServesObjects : Plan → Type 0
ServesObjects plan = (o : Opening) (events : List Event) → IsOpening o → o.plan ≡ plan
    → IsEventList (setting_of o) events → IsLinearized (setting_of o) events

-- a plan for the witness has as many processes as the number says; it reaches consensus, and serves
-- objects
pub record IsPlanOfNumber (V : Type 0) (f : Finding) (plan : Plan) : Type 0 where
  pub processes : f.number ≡ Some (processes_of plan)
  pub consensus : ReachesConsensus V plan
  pub log : ServesObjects plan

-- the number found is the greatest n from 2 to the limit for which the type is n-discerning, or
-- none is; and each plan of the table and the witness found reaches consensus and serves objects
pub record Headline (V : Type 0) (t : TypeTable) (limit : ℕ) (f : Finding) : Type 0 where
  pub number : IsNumberUpTo t limit f.number
  pub plan : (w : Choice) (plan : Plan) → f.witness ≡ Some w → IsPlan plan → plan.table ≡ t
      → plan.choice ≡ w → IsPlanOfNumber V f plan
