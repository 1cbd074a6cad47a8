use Rattle.std.proofs.Common.{below_more, length, arith, subst}
use Rattle.cn_unread.specs.Nodes.{Scene}
use Rattle.cn_further.specs.FurtherNodes.{further_of}
use Rattle.cn_further.specs.SceneLists.{AgreeFor, first_scene, scene_next, scene_of}
use Rattle.cn_further.proofs.Steps.{agree_back, listed_same}
use Rattle.cn_further.proofs.listing.has_starts.Goals as goal

pub loop-process-preserved : goal.loop-process-preserved
loop-process-preserved c =
    let n = length c.args.operations.now in
    let after = scene_of c.after-next.result in
    let p = c.loop-process.process in
    let next = scene_next c.args.table.now c.args.operations.now (further_of c.args.follow_ups.now) (first_scene c.args.state.0) p in
    let is : AgreeFor n after next =
    subst (λ (w : Scene). AgreeFor n after (scene_next c.args.table.now c.args.operations.now (further_of c.args.follow_ups.now) w p)) c.first-first.ensures.scene c.after-next.ensures.next in
    below_more _ _ c.loop-process.invariant
    (λ _. listed_same c.args.scenes.now (length c.after-next.result.stages.items) n after next c.after-next.ensures.scene.1
    (agree_back n after next is) (c.has_scene.ensures c.if-not-has_scene.false))

pub returns : goal.returns
returns c = λ _. record { next = λ j low l. c.loop-process.invariant j (omega (arith, l, c.loop-process-test.false)) low }
