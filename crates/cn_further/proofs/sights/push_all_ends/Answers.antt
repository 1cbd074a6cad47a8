use Rattle.std.proofs.Common.{ℕ, List, All, rules, subst, get_or, take}
use Rattle.std.proofs.lemmas.List.{take_all}
use Rattle.std.proofs.lemmas.List.Elements.{All-more}
use Rattle.cn_choice.specs.declared.team.Team.{Team}
use Rattle.cn_further.specs.FurtherNodes.{further_of}
use Rattle.cn_further.specs.FurtherSights.{HasEndsOf}
use Rattle.cn_further.specs.declared.scene.Scene.{Scene}
use Rattle.cn_further.specs.declared.sight.FurtherSight.{FurtherSight}
use Rattle.cn_further.proofs.AllSights.{ends_more}
use Rattle.cn_further.proofs.sights.push_all_ends.Goals as goal

pub loop-scene-preserved : goal.loop-scene-preserved
loop-scene-preserved c =
    let os = c.args.operations.now in
    let further = further_of c.args.follow_ups.now in
    let team : Team = c.args.team in
    let i = c.loop-scene.invariant in
    let old : List FurtherSight = c.loop-scene.list.items in
    let new : List FurtherSight = c.push_ends.new.list.items in
    let on = c.in_ok-push_ends.ensures in
    let scenes : List Scene = c.args.scenes.now in
    let k : ℕ = c.loop-scene.scene-index in record {
      ends = All-more (HasEndsOf os further team new) scenes k c.scene-item.result c.loop-scene-test.true
          (λ x d l. ends_more os further team old new on.more (get_or (take k scenes) x d) (i.ends x d l)) (search rules);
      more = λ s h. on.more s (i.more s h);
      once = λ before. on.once (i.once before);
      sound = λ t state size all before. on.sound t state size (search rules) (i.sound t state size all before);
    }

pub returns-clause-ends : goal.returns-clause-ends
returns-clause-ends c =
    let Has = HasEndsOf c.args.operations.now (further_of c.args.follow_ups.now) c.args.team c.loop-scene.list.items in
    subst (λ (xs : List Scene). All Has xs) (take_all c.loop-scene.scene-index c.args.scenes.now c.loop-scene-test.false) c.loop-scene.invariant.ends
