use Rattle.std.proofs.Common.{ap, arith, slice_index_or, subst, ℕ, ◌+◌, ◌<◌, ◌≡◌, ◌∙◌}
use Rattle.std.proofs.lemmas.List.{get_or_default}
use Rattle.cn_trees.specs.Tree.{nodes_in}
use Rattle.cn_tree_costs.specs.Nodes.{node_at}
use Rattle.cn_tree_costs.specs.Sizes.{sizes_of}
use Rattle.cn_tree_plans.specs.Made.{AreNodeLists}
use Rattle.cn_tree_plans.specs.Plan.{no_meeting}
use Rattle.cn_tree_plans.specs.Teams.{teams_of}
use Rattle.cn_tree_plans.proofs.MakingLemmas.{all_witnesses, fault_fits, fault_right, is_tree_plan, judged_same}
use Rattle.cn_tree_plans.proofs.NodeLemmas.{is_division, is_meeting}
use Rattle.cn_tree_plans.proofs.ShownLemmas.{nodes_push}
use Rattle.cn_tree_plans.proofs.TeamLemmas.{several_bound, within}
use Rattle.cn_tree_plans.proofs.making.all_judged.Goals as goal

pub overflow_cast-node-end : goal.overflow_cast-node-end
overflow_cast-node-end c =
    omega (arith, c.requires.fits.count, several_bound (teams_of c.args.teams.now) c.requires.proper.below, c.requires.few)

pub sizes-requires : goal.sizes-requires
sizes-requires c = rw c.at.ensures (omega (arith, within (teams_of c.args.teams.now) c.loop-node.node, c.requires.few))

pub node_judged-requires-clause-meeting : goal.node_judged-requires-clause-meeting
node_judged-requires-clause-meeting c =
    let lv : c.loop-node.node < 1 + nodes_in (teams_of c.args.teams.now) = omega (arith, c.loop-node-test.true, c.requires.fits.count) in
    let e : c.index-meetings-from.result ≡ slice_index_or c.args.meetings.now c.loop-node.node no_meeting =
    c.index-meetings-from.is ∙ (get_or_default c.args.meetings.now c.from.result c.index-meetings-from.result no_meeting (omega (arith, c.from.ensures, c.loop-node-test.true))
    ∙ ap (λ k. slice_index_or c.args.meetings.now k no_meeting) c.from.ensures) in
    let sizes : c.deref.result.now ≡ sizes_of (node_at (teams_of c.args.teams.now) c.loop-node.node).teams =
    c.deref.ensures.value ∙ (c.in_ok-sizes.ensures ∙ ap sizes_of c.at.ensures) in
    rw e (is_meeting c.tournaments_are_sound.ensures.outcomes c.pair_along_order.ensures c.nodes_are_trees.ensures.processes c.nodes_are_trees.ensures.teams
    c.args.table.now (teams_of c.args.teams.now) c.args.meetings.now c.requires.table c.requires.proper c.requires.few c.requires.fits c.loop-node.node lv)

pub node_judged-requires-clause-sizes : goal.node_judged-requires-clause-sizes
node_judged-requires-clause-sizes c =
    let lv : c.loop-node.node < 1 + nodes_in (teams_of c.args.teams.now) = omega (arith, c.loop-node-test.true, c.requires.fits.count) in
    let e : c.index-meetings-from.result ≡ slice_index_or c.args.meetings.now c.loop-node.node no_meeting =
    c.index-meetings-from.is ∙ (get_or_default c.args.meetings.now c.from.result c.index-meetings-from.result no_meeting (omega (arith, c.from.ensures, c.loop-node-test.true))
    ∙ ap (λ k. slice_index_or c.args.meetings.now k no_meeting) c.from.ensures) in
    let sizes : c.deref.result.now ≡ sizes_of (node_at (teams_of c.args.teams.now) c.loop-node.node).teams =
    c.deref.ensures.value ∙ (c.in_ok-sizes.ensures ∙ ap sizes_of c.at.ensures) in
    rw (e, sizes) (is_division c.tournaments_are_sound.ensures.outcomes c.pair_along_order.ensures c.nodes_are_trees.ensures.processes c.nodes_are_trees.ensures.teams
    c.args.table.now (teams_of c.args.teams.now) c.args.meetings.now c.requires.table c.requires.proper c.requires.few c.requires.fits c.loop-node.node lv)

pub fault_at-requires : goal.fault_at-requires
fault_at-requires c =
    let lv : c.loop-node.node < 1 + nodes_in (teams_of c.args.teams.now) = omega (arith, c.loop-node-test.true, c.requires.fits.count) in
    let e : c.index-meetings-from.result ≡ slice_index_or c.args.meetings.now c.loop-node.node no_meeting =
    c.index-meetings-from.is ∙ (get_or_default c.args.meetings.now c.from.result c.index-meetings-from.result no_meeting (omega (arith, c.from.ensures, c.loop-node-test.true))
    ∙ ap (λ k. slice_index_or c.args.meetings.now k no_meeting) c.from.ensures) in
    let sizes : c.deref.result.now ≡ sizes_of (node_at (teams_of c.args.teams.now) c.loop-node.node).teams =
    c.deref.ensures.value ∙ (c.in_ok-sizes.ensures ∙ ap sizes_of c.at.ensures) in
    rw c.first_at.ensures (fault_fits c.tournaments_are_sound.ensures.outcomes c.pair_along_order.ensures c.nodes_are_trees.ensures.processes c.nodes_are_trees.ensures.teams
    c.args.table.now (teams_of c.args.teams.now) c.args.meetings.now c.requires.table c.requires.proper c.requires.few c.requires.fits c.loop-node.node c.in-Err.fault lv (judged_same c.args.table.now _ _ _ _ c.in-Err.fault e sizes c.in-Err.ensures))

pub returns-in-Err : goal.returns-in-Err
returns-in-Err c =
    let lv : c.loop-node.node < 1 + nodes_in (teams_of c.args.teams.now) = omega (arith, c.loop-node-test.true, c.requires.fits.count) in
    let e : c.index-meetings-from.result ≡ slice_index_or c.args.meetings.now c.loop-node.node no_meeting =
    c.index-meetings-from.is ∙ (get_or_default c.args.meetings.now c.from.result c.index-meetings-from.result no_meeting (omega (arith, c.from.ensures, c.loop-node-test.true))
    ∙ ap (λ k. slice_index_or c.args.meetings.now k no_meeting) c.from.ensures) in
    let sizes : c.deref.result.now ≡ sizes_of (node_at (teams_of c.args.teams.now) c.loop-node.node).teams =
    c.deref.ensures.value ∙ (c.in_ok-sizes.ensures ∙ ap sizes_of c.at.ensures) in
    rw (c.fault_at.ensures, c.first_at.ensures)
    (fault_right c.tournaments_are_sound.ensures.outcomes c.pair_along_order.ensures c.nodes_are_trees.ensures.processes c.nodes_are_trees.ensures.teams
    c.args.table.now (teams_of c.args.teams.now) c.args.meetings.now c.requires.table c.requires.proper c.requires.few c.requires.fits c.loop-node.node c.in-Err.fault c.loop-node.judged.items lv c.loop-node.invariant (judged_same c.args.table.now _ _ _ _ c.in-Err.fault e sizes c.in-Err.ensures))

pub loop-node-preserved : goal.loop-node-preserved
loop-node-preserved c =
    let lv : c.loop-node.node < 1 + nodes_in (teams_of c.args.teams.now) = omega (arith, c.loop-node-test.true, c.requires.fits.count) in
    let e : c.index-meetings-from.result ≡ slice_index_or c.args.meetings.now c.loop-node.node no_meeting =
    c.index-meetings-from.is ∙ (get_or_default c.args.meetings.now c.from.result c.index-meetings-from.result no_meeting (omega (arith, c.from.ensures, c.loop-node-test.true))
    ∙ ap (λ k. slice_index_or c.args.meetings.now k no_meeting) c.from.ensures) in
    let sizes : c.deref.result.now ≡ sizes_of (node_at (teams_of c.args.teams.now) c.loop-node.node).teams =
    c.deref.ensures.value ∙ (c.in_ok-sizes.ensures ∙ ap sizes_of c.at.ensures) in
    rw c.in_ok-push-in-Ok.ensures.items
    (nodes_push c.args.table.now (teams_of c.args.teams.now) c.args.meetings.now c.loop-node.node c.loop-node.judged.items c.in-Ok.lists c.loop-node.invariant
    (rw (e, sizes) at c.in-Ok.ensures))

pub returns : goal.returns
returns c =
    let e : c.loop-node.node ≡ 1 + nodes_in (teams_of c.args.teams.now) = omega (arith, c.loop-node-test.false, c.loop-node.auto.node-end, c.requires.fits.count) in
    let are = subst (λ (n : ℕ). AreNodeLists c.args.table.now (teams_of c.args.teams.now) c.args.meetings.now n c.loop-node.judged.items) e c.loop-node.invariant in (
      all_witnesses c.tournaments_are_sound.ensures.outcomes c.pair_along_order.ensures c.nodes_are_trees.ensures.processes c.nodes_are_trees.ensures.teams
          c.args.table.now (teams_of c.args.teams.now) c.args.meetings.now c.requires.table c.requires.proper c.requires.few c.requires.fits c.loop-node.judged.items are,
      is_tree_plan c.tournaments_are_sound.ensures.outcomes c.pair_along_order.ensures c.nodes_are_trees.ensures.processes c.nodes_are_trees.ensures.teams
          c.args.table.now (teams_of c.args.teams.now) c.args.meetings.now c.requires.table c.requires.proper c.requires.few c.requires.fits c.loop-node.judged.items are,
    )
