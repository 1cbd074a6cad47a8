use Rattle.std.proofs.Common.{ap, refl, sym, true, ◌∙◌}
use Rattle.cn_table.specs.TypeTable.{TypeTable}
use Rattle.cn_tree_check.proofs.HeadLemmas.{as_many}
use Rattle.cn_tree_check.proofs.RightLemmas.{right_of}
use Rattle.cn_tree_check.proofs.maker.tree_certificate.Goals as goal

pub returns-clause-says : goal.returns-clause-says
returns-clause-says c = record {
  type_name = c.in_ok-type_name.ensures.ok ∙ c.name.ensures.value ∙ ap (λ (t : TypeTable). t.name) c.table.ensures;
  teams = c.in_ok-nodes.ensures.teams;
  meetings = c.in_ok-nodes.ensures.meetings;
  processes = c.processes.ensures.number;
  objects = as_many c.in_ok-nodes.nodes.items c.args.plan.now.teams (sym c.in_ok-nodes.ensures.teams);
  steps = c.cost.ensures.steps;
}

pub returns-clause-right : goal.returns-clause-right
returns-clause-right c =
    right_of c.args.plan.now _ c.tree_plans_are_right.ensures.plan (c.tree_plans_are_right.ensures.tree (λ s. true) (λ s known. refl)).witnesses (record {
      type_name = c.in_ok-type_name.ensures.ok ∙ c.name.ensures.value ∙ ap (λ (t : TypeTable). t.name) c.table.ensures;
      teams = c.in_ok-nodes.ensures.teams;
      meetings = c.in_ok-nodes.ensures.meetings;
      processes = c.processes.ensures.number;
      objects = as_many c.in_ok-nodes.nodes.items c.args.plan.now.teams (sym c.in_ok-nodes.ensures.teams);
      steps = c.cost.ensures.steps;
    })
