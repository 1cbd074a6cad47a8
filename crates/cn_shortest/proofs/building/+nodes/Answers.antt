use Rattle.std.proofs.Common.{◌≡◌, ◌+◌, ◌-◌, ◌*◌, ◌<◌, ◌≤◌, ◌∙◌, ap, arith, length, Some, subst, sym}
use Rattle.std.specs.Prelude.{All}
use Rattle.std.proofs.lemmas.Result.{IfOk-weaker}
use Rattle.cn_tree_costs.specs.Least.{Load, load_of_teams}
use Rattle.cn_tree_plans.specs.Teams.{teams_of}
use Rattle.cn_trees.specs.Tree.Teams.{Meet}
use Rattle.cn_shortest.specs.Built.{AddsNode, AddsTeams}
use Rattle.cn_shortest.specs.Loads.{table_of}
use Rattle.cn_meetings.specs.Sights.{sight_of}
use Rattle.cn_shortest.proofs.BuiltNodes.{few_sizes, first_size, first_there, from_there, node_from, node_sizes, other_sizes, others_there, teams_some}
use Rattle.cn_tree_costs.proofs.Numbers.{price_few}
use Rattle.cn_shortest.proofs.building.+nodes.Goals as goal

pub add_node-list_of-sizes-requires : goal.add_node-list_of-sizes-requires
add_node-list_of-sizes-requires t c =
    few_sizes c.args.found.now c.args.n c.args.budget c.root-choice.result c.root-choice.ensures (omega (arith, c.requires.few, c.requires.found.long, c.requires.found.few))

pub add_node-add_teams-requires : goal.add_node-add_teams-requires
add_node-add_teams-requires t c =
    let s = c.args.found.now in
    let root = c.root-choice.ensures in
    let few : c.args.n ≤ 8 = omega (arith, c.requires.few, c.requires.found.long, c.requires.found.few) in
    let lists = c.as_slice.ensures.value ∙ c.list_of-sizes.ensures in
    let price = (price_few (sight_of c.root-choice.result.sight)).0 in
    let less : 9 * (c.args.budget - c.price.result) + length c.as_slice.result.now < 9 * c.args.budget =
    omega (arith, c.price.ensures, price, root.paid, ap length lists, few_sizes s c.args.n c.args.budget c.root-choice.result root few) in
    let sizes : All (λ m. (1 ≤ m) × (m ≤ length s.rows.items)) c.as_slice.result.now =
    subst (All (λ m. (1 ≤ m) × (m ≤ length s.rows.items))) (sym lists) (node_sizes s c.args.n c.args.budget c.root-choice.result root few (length s.rows.items) c.requires.few) in
    let load = from_there s c.args.n c.args.budget c.root-choice.result root few c.as_slice.result.now c.price.result lists c.price.ensures c.requires.load in
    (omega (arith, less), (c.requires.found, (sizes, (omega (arith, c.requires.budget), load))))

pub add_node-returns : goal.add_node-returns
add_node-returns t c =
    let s = c.args.found.now in
    let few : c.args.n ≤ 8 = omega (arith, c.requires.few, c.requires.found.long, c.requires.found.few) in
    let lists = c.as_slice.ensures.value ∙ c.list_of-sizes.ensures in
    let list = c.as_slice.result.now in
    let below = c.args.budget - c.price.result in
    let mid = c.push.new.self.items in
    let new = c.add_teams.new.meetings.items in
    IfOk-weaker c.add_teams.result
    (λ v. (y : Load) → load_of_teams (table_of s.rows.items) below list ≡ Some y → AddsTeams s.roots.items below list y (teams_of v) mid new)
    (λ v. (x : Load) → table_of s.rows.items c.args.n c.args.budget ≡ Some x → AddsNode s.roots.items c.args.n c.args.budget x (teams_of v) c.args.meetings.now.items new)
    (λ v adds x e. node_from s c.args.n c.args.budget c.root-choice.result c.root-choice.ensures few x c.in_ok-here.here (teams_of v) c.args.meetings.now.items mid new list c.price.result lists c.price.ensures e
    c.in_ok-push.ensures.items c.in_ok-here.ensures.sight c.in_ok-here.ensures.node adds)
    c.add_teams.ensures

pub add_teams-add_teams-requires : goal.add_teams-add_teams-requires
add_teams-add_teams-requires t c =
    let s = c.args.found.now in
    let parts = c.in-Some.ensures.cases in
    let less : 9 * c.args.budget + length c.in-Some.rest.now < 9 * c.args.budget + length c.args.sizes.now = omega (arith, parts.1) in
    let sizes = other_sizes (λ m. (1 ≤ m) × (m ≤ length s.rows.items)) c.args.sizes.now c.in-Some.rest.now c.in-Some.size.now parts.0 c.requires.sizes in
    let load = others_there s.roots.items (table_of s.rows.items) c.args.budget c.args.sizes.now c.in-Some.rest.now c.in-Some.size.now parts.0 c.requires.load in
    (omega (arith, less), (c.requires.found, (sizes, (c.requires.budget, load))))

pub add_teams-add_teams-requires-2 : goal.add_teams-add_teams-requires-2
add_teams-add_teams-requires-2 t c =
    let s = c.args.found.now in
    let parts = c.in-Some.ensures.cases in
    let less : 9 * c.args.budget + length c.in-Some.rest.now < 9 * c.args.budget + length c.args.sizes.now = omega (arith, parts.1) in
    let sizes = other_sizes (λ m. (1 ≤ m) × (m ≤ length s.rows.items)) c.args.sizes.now c.in-Some.rest.now c.in-Some.size.now parts.0 c.requires.sizes in
    let load = others_there s.roots.items (table_of s.rows.items) c.args.budget c.args.sizes.now c.in-Some.rest.now c.in-Some.size.now parts.0 c.requires.load in
    (omega (arith, less), (c.requires.found, (sizes, (c.requires.budget, load))))

pub add_teams-add_node-requires : goal.add_teams-add_node-requires
add_teams-add_node-requires t c =
    let s = c.args.found.now in
    let parts = c.in-Some.ensures.cases in
    let here = first_size (λ m. (1 ≤ m) × (m ≤ length s.rows.items)) c.args.sizes.now c.in-Some.rest.now c.in-Some.size.now parts.0 c.requires.sizes in
    let one = here.0 in
    let less : 9 * c.args.budget < 9 * c.args.budget + length c.args.sizes.now = omega (arith, parts.1) in
    let load = first_there s.roots.items (table_of s.rows.items) c.args.budget c.args.sizes.now c.in-Some.rest.now c.in-Some.size.now parts.0 c.requires.load in
    (omega (arith, less), (c.requires.found, (omega (arith, one, c.if-size-eq1.false), (here.1, (c.requires.budget, load)))))

pub add_teams-returns : goal.add_teams-returns
add_teams-returns t c =
    let s = c.args.found.now in
    let is = c.in-Some.ensures.cases.0 in
    IfOk-weaker c.meet.result
    (λ v. teams_of v ≡ Meet (teams_of c.in_ok-team.team) (teams_of c.in_ok-others-2.others))
    (λ v. (x : Load) → load_of_teams (table_of s.rows.items) c.args.budget c.args.sizes.now ≡ Some x
    → AddsTeams s.roots.items c.args.budget c.args.sizes.now x (teams_of v) c.args.meetings.now.items c.add_teams-2.new.meetings.items)
    (λ v same x e. teams_some s.roots.items (table_of s.rows.items) c.args.budget c.args.sizes.now c.in-Some.rest.now c.in-Some.size.now is x (teams_of v) (teams_of c.in_ok-team.team) (teams_of c.in_ok-others-2.others)
    c.args.meetings.now.items c.add_node.new.meetings.items c.add_teams-2.new.meetings.items same e c.in_ok-team.ensures c.in_ok-others-2.ensures)
    c.meet.ensures
