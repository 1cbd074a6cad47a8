use Rattle.std.proofs.Common.{◌≡◌, ℕ, ap, slice_index_or, sym, ◌∙◌}
use Rattle.cn_table.specs.TypeTable.{TypeTable, transition}
use Rattle.cn_meetings.specs.Meeting.{see}
use Rattle.cn_meetings.specs.Sights.{sight_of}
use Rattle.cn_meetings.specs.declared.sight.Sight.{Sight}
use Rattle.cn_tree_plans.specs.Plan.{TreePlan, no_meeting, tree_of}
use Rattle.cn_tree_rounds.specs.Actions.{look_by, looking}
use Rattle.cn_tree_rounds.specs.declared.action.Action.TheVariants as acts
use Rattle.cn_tree_rounds.proofs.turn.Turn.looking.Goals as goal

-- the sight, what is seen and what is judged were asked of the plan
looks_so : (plan : TreePlan) (node p response state saw team : ℕ) (sight : Sight) → team ≡ (tree_of plan).judge node p response saw → see plan.table ((tree_of plan).meeting node) p state ≡ saw
    → sight ≡ (slice_index_or plan.meetings node no_meeting).sight → look_by plan.table node state team (sight_of sight) ≡ looking (tree_of plan) node p response state
looks_so plan node p response state saw team sight judged seen there =
    ap (λ (g : ℕ). look_by plan.table node state g (sight_of sight)) (judged ∙ ap ((tree_of plan).judge node p response) (sym seen))
    ∙ ap (λ (s : Sight). look_by plan.table node state ((tree_of plan).judge node p response (see plan.table ((tree_of plan).meeting node) p state)) (sight_of s)) there

pub returns-in-State : goal.returns-in-State
returns-in-State c = record {
  action = ap (λ (s : Sight). look_by c.args.plan.now.table c.args.self.here.node c.args.state.0 c.judge-team.result (sight_of s)) (sym c.in-State.is)
      ∙ looks_so c.args.plan.now c.args.self.here.node c.args.self.process c.args.response.0 c.args.state.0 c.see-saw.result c.judge-team.result c.sight.result c.judge-team.ensures.team
      (c.see-saw.ensures.value c.args.self.process) c.sight.ensures.value;
  table = c.requires.state;
}

pub returns-in-Nothing : goal.returns-in-Nothing
returns-in-Nothing c = record {
  action = ap (λ (s : Sight). look_by c.args.plan.now.table c.args.self.here.node c.args.state.0 c.judge-team.result (sight_of s)) (sym c.in-Nothing.is)
      ∙ looks_so c.args.plan.now c.args.self.here.node c.args.self.process c.args.response.0 c.args.state.0 c.see-saw.result c.judge-team.result c.sight.result c.judge-team.ensures.team
      (c.see-saw.ensures.value c.args.self.process) c.sight.ensures.value;
  table = c.requires.state;
}

pub returns-in-Response-clause-action : goal.returns-in-Response-clause-action
returns-in-Response-clause-action c =
    let given : c.apply.result.0.0 ≡ (transition c.args.plan.now.table c.in-Response.operation.0 c.args.state.0).0 =
    ap (λ (x : ℕ × ℕ). x.0) c.apply.ensures.value ∙ ap (λ (t : TypeTable). (transition t c.in-Response.operation.0 c.args.state.0).0) c.table.ensures in
    ap (λ (r : ℕ). acts.Look c.args.self.here.node c.in-Response.operation (record { 0 = r }) c.judge-team.result) given
    ∙ ap (λ (s : Sight). look_by c.args.plan.now.table c.args.self.here.node c.args.state.0 c.judge-team.result (sight_of s)) (sym c.in-Response.is)
    ∙ looks_so c.args.plan.now c.args.self.here.node c.args.self.process c.args.response.0 c.args.state.0 c.see-saw.result c.judge-team.result c.sight.result c.judge-team.ensures.team
    (c.see-saw.ensures.value c.args.self.process) c.sight.ensures.value
