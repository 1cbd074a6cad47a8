-- What `agree --recoverable` reports.
use Rattle.std.proofs.Common.{◌≡◌, ℕ, inl, inr, List, None, Option, Ok}
use Rattle.std.specs.Prelude.{string_bytes}
use Rattle.cn_table.specs.TypeTable.{TypeTable}
use Rattle.cn_agree.specs.Schedules.{schedule_fault}
use Rattle.cn_proto.specs.Plan.{processes_of}
use Rattle.cn_lives.specs.Plans.{IsRecordingPlan, RecordingPlan}
use Rattle.cn_lives.specs.Schedules.{named}
use Rattle.cn_lives.specs.declared.schedule.Event.{Event}
use Rattle.cn_life_laws.specs.Consensus.{IsRecoverableConsensus}
use Rattle.cn_app.specs.Commands.Lives.{GivesLivesPlan, IsLived, IsLivesReport}
use Rattle.cn_io.specs.declared.report.Report.{Report}
use Rattle.cn_app.specs.declared.reports.lives.AskedLives.{AskedLives}

-- a run without a fault is consensus
abbrev pub RunsReachConsensus : Type 0
RunsReachConsensus = (p : RecordingPlan) (inputs : List ℕ) (schedule : List Event)
    → IsRecordingPlan p → schedule_fault (processes_of p.plan) inputs (named schedule) ≡ None
    → IsRecoverableConsensus p inputs schedule

-- the plan that a table gives is one
given_plan : (t : TypeTable) (given : Option ℕ) (p : RecordingPlan) → GivesLivesPlan t given (Ok p)
    → IsRecordingPlan p
given_plan t given p (inl fault) = absurd (cc fault.2)
given_plan t given p (inr (n, count, first)) = first.0

pub reports_reach_consensus : RunsReachConsensus → (t : TypeTable) (inputs : List ℕ)
    (schedule : List Event) (asked : AskedLives) (report : Report)
    → IsLivesReport t inputs schedule asked (Ok report)
    → (p : RecordingPlan) × GivesLivesPlan t asked.processes (Ok p)
    × IsLived p inputs schedule asked.steps asked.form (string_bytes report.text)
    × IsRecoverableConsensus p inputs schedule
reports_reach_consensus reach t inputs schedule asked report (inl fault) = absurd (cc fault.2)
reports_reach_consensus reach t inputs schedule asked report (inr (p, gives, run)) =
    (p, gives, run.0, reach p inputs schedule (given_plan t asked.processes p gives) run.0.run)
