-- The judge of a recording plan is right.
use Rattle.std.proofs.Common.{◌≡◌, ℕ, ◌<◌, ◌≤◌, List, length}
use Rattle.cn_table.specs.TypeTable.{TypeTable}
use Rattle.cn_choice.specs.Canonical.{Choice, raw_choice_of}
use Rattle.cn_choice.specs.Moves.{move_of}
use Rattle.cn_choice.specs.declared.team.Team.{Team}
use Rattle.cn_choice.specs.declared.team.Team.TheVariants.{A, B}
use Rattle.cn_choice.proofs.ChoiceLemmas.CanonicalForms.{choice-IsRawChoice}
use Rattle.cn_outcomes.specs.LeftStates.{LeavesIn}
use Rattle.cn_proto.specs.Order.{after, IsRun}
use Rattle.cn_proto.specs.Plan.{processes_of}
use Rattle.cn_proto.specs.Tournament.{team_of}
use Rattle.cn_proto.proofs.PlanLemmas.{plan_reachable}
use Rattle.cn_crashes.proofs.LawsBelow.{Tournaments}
use Rattle.cn_crashes.proofs.NodeStatus.{IsRight}
use Rattle.cn_crashes.proofs.RecordingPlans as plans
use Rattle.cn_lives.specs.Plans.{IsRecordingPlan, RecordingPlan, judge}
use Rattle.cn_lives.proofs.Planning.{other_than_a}
use Rattle.cn_life_laws.specs.Mirrors.{recoverable_plan}

module _ (p : RecordingPlan) (is : IsRecordingPlan p) (tournaments : Tournaments) where
  abbrev t : TypeTable
  t = p.plan.table

  abbrev c : Choice
  c = p.plan.choice

  judged : (side : Team) (order : List ℕ) → IsRun (processes_of p.plan) (team_of (length c.a)) side
      order → LeavesIn t (raw_choice_of c) side (after (move_of t (raw_choice_of c)) c.state order)
      → judge p (after (move_of t (raw_choice_of c)) c.state order) ≡ side
  judged A order r h =
      (is.left (after (move_of t (raw_choice_of c)) c.state order)
      (plan_reachable p.plan is.is_plan order)).1 h
  judged B order r h =
      let q = after (move_of t (raw_choice_of c)) c.state order in
      other_than_a (judge p q)
      (λ e. is.recording.apart q ((is.left q (plan_reachable p.plan is.is_plan order)).0 e) h)

  some : 1 ≤ length c.a
  some = (choice-IsRawChoice t (processes_of p.plan) c is.is_plan.fits.fits).someone_in_a

  pub right : IsRight (recoverable_plan p) (processes_of p.plan) (team_of (length c.a))
  right =
      let r = plans.right tournaments t (processes_of p.plan) c some is.is_plan.fits.fits
      is.recording (judge p) judged is.home in
      record {
        right = r.right;
        start_is_b = r.start_is_b;
        no_way_back = r.no_way_back;
        loner = r.loner;
      }
