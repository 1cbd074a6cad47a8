use Rattle.std.proofs.Common.{subst}
use Rattle.cn_tree_plans.specs.Made.{IsRefused}
use Rattle.cn_tree_plans.specs.Teams.{teams_of}
use Rattle.cn_tree_plans.specs.declared.fault.TreePlanFault.{TreePlanFault}
use Rattle.cn_tree_plans.proofs.PlanLemmas.{of_type}
use Rattle.cn_shortest.specs.Loads.{table_of}
use Rattle.cn_shortest.specs.Looks.{allowed}
use Rattle.cn_shortest.proofs.BuiltNodes.{load_there}
use Rattle.cn_shortest.proofs.Plans.{least_built, meetings_built, never_refused, nobody_looks, proper_built}
use Rattle.cn_shortest.proofs.plan.plan_of.Goals as goal

pub new-requires-clause-proper : goal.new-requires-clause-proper
new-requires-clause-proper c =
    let s = c.args.found.now in
    let x = load_there (table_of s.rows.items c.args.n c.args.budget) c.requires.load in
    proper_built c.args.table.now s.roots.items c.args.n c.args.budget x.0 (teams_of c.in_ok-teams.teams) c.new-meetings.result.items c.add_node.new.meetings.items
    c.new-meetings.ensures.items (allowed c.args.looks) c.requires.examples (c.in_ok-teams.ensures x.0 x.1)

pub new-requires-clause-fits : goal.new-requires-clause-fits
new-requires-clause-fits c =
    let s = c.args.found.now in
    let x = load_there (table_of s.rows.items c.args.n c.args.budget) c.requires.load in
    meetings_built c.args.table.now s.roots.items c.args.n c.args.budget x.0 (teams_of c.in_ok-teams.teams) c.new-meetings.result.items c.add_node.new.meetings.items
    c.new-meetings.ensures.items (allowed c.args.looks) c.requires.examples (c.in_ok-teams.ensures x.0 x.1)

pub returns-in-Ok : goal.returns-in-Ok
returns-in-Ok c x e other =
    let s = c.args.found.now in
    let made = c.in-Ok.ensures in
    least_built c.args.table.now s.roots.items c.args.n c.args.budget x (teams_of c.in_ok-teams.teams) c.new-meetings.result.items c.add_node.new.meetings.items
    c.new-meetings.ensures.items (allowed c.args.looks) c.requires.examples (c.in_ok-teams.ensures x e) c.in-Ok.plan (nobody_looks c.args.looks) made.0 made.1 made.2 made.3 (of_type c.nodes_are_trees.ensures.processes c.in-Ok.plan c.tree_plans_are_right.ensures.plan) other

pub unreachable-requires : goal.unreachable-requires
unreachable-requires c =
    let s = c.args.found.now in
    let x = load_there (table_of s.rows.items c.args.n c.args.budget) c.requires.load in
    let teams = teams_of c.in_ok-teams.teams in
    let new = c.add_node.new.meetings.items in
    never_refused c.args.table.now s.roots.items c.args.n c.args.budget x.0 teams c.new-meetings.result.items new
    c.new-meetings.ensures.items (allowed c.args.looks) c.requires.examples (c.in_ok-teams.ensures x.0 x.1) c.nodes_are_trees.ensures.processes c.nodes_are_trees.ensures.teams c.in-Meets.node c.in-Meets.process
    (subst (λ (f : TreePlanFault). IsRefused c.args.table.now teams new f) c.in-Meets.is c.in-Err.ensures)
