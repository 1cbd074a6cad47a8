use Rattle.std.proofs.Common.{◌≡◌, List, Ok, ap, map, refl, subst, ◌∙◌}
use Rattle.std.specs.Prelude.{IfSome}
use Rattle.cn_tree_cert.specs.Certificate.{TreeCertificate}
use Rattle.cn_tree_plans.specs.Made.{IsMade}
use Rattle.cn_tree_plans.specs.Plan.{AreMeetings, NodeMeeting}
use Rattle.cn_tree_plans.specs.Teams.{teams_of}
use Rattle.cn_tree_check.proofs.RightLemmas.{made}
use Rattle.cn_tree_check.specs.Right.{HasMeetings, IsTreeOf, meeting_of, meetings_of}
use Rattle.cn_tree_check.proofs.verdict.plan_told.Goals as goal

pub returns-clause-plan : goal.returns-clause-plan
returns-clause-plan c =
    let t = c.args.table.now in
    let certificate = c.args.certificate.now in
    let s = teams_of c.in-Some.teams in
    let tree : IsTreeOf certificate s = subst (λ o. IfSome o (λ r. IsTreeOf certificate (teams_of r))) c.in-Some.is c.in_ok-teams.ensures.some in
    let same : c.in_ok-meetings.meetings.items ≡ meetings_of certificate =
    c.in_ok-meetings.ensures ∙ ap (map meeting_of) (c.as_slice.ensures.value ∙ ap (λ (k : TreeCertificate). k.nodes) c.certificate.view_is) in
    let are : AreMeetings t s c.deref.result.now = c.if-not-are_meetings.ensures.0 refl in
    let meetings : AreMeetings t s (meetings_of certificate) = subst (AreMeetings t s) (c.deref.ensures.value ∙ same) are in
    let fits : HasMeetings t certificate s = record { tree = tree; meetings = meetings } in
    let is : IsMade t s (meetings_of certificate) (Ok c.in_ok-plan.plan) =
    subst (λ (m : List NodeMeeting). IsMade t s m (Ok c.in_ok-plan.plan)) same c.in_ok-plan.ensures in
    made t certificate s c.in_ok-plan.plan fits is
