use Rattle.std.proofs.Common.{ℕ, List, All, rules, subst, get_or, take}
use Rattle.std.proofs.lemmas.List.{take_all}
use Rattle.std.proofs.lemmas.List.Elements.{All-more}
use Rattle.cn_further.specs.FurtherNodes.{further_of}
use Rattle.cn_further.specs.FurtherSights.{LeadsTo}
use Rattle.cn_further.specs.declared.scene.Scene.{Scene}
use Rattle.cn_further.proofs.ReachedScenes.{leads_more}
use Rattle.cn_further.proofs.levels.next_level.Goals as goal

pub loop-scene-preserved : goal.loop-scene-preserved
loop-scene-preserved c =
    let t = c.args.table.now in
    let os = c.args.operations.now in
    let further = further_of c.args.follow_ups.now in
    let i = c.loop-scene.invariant in
    let old : List Scene = c.loop-scene.scenes.items in
    let new : List Scene = c.add_next.new.scenes.items in
    let on = c.in_ok-add_next.ensures in
    let level : List Scene = c.args.level.now in
    let k : ℕ = c.loop-scene.scene-index in record {
      next = All-more (LeadsTo t os further new) level k c.scene-item.result c.loop-scene-test.true
          (λ x d l. leads_more t os further old new on.more (get_or (take k level) x d) (i.next x d l)) (search rules);
      reached = λ state size count team all. on.reached state size count team (search rules) (i.reached state size count team all);
    }

pub returns-clause-next : goal.returns-clause-next
returns-clause-next c =
    let Leads = LeadsTo c.args.table.now c.args.operations.now (further_of c.args.follow_ups.now) c.loop-scene.scenes.items in
    subst (λ (xs : List Scene). All Leads xs) (take_all c.loop-scene.scene-index c.args.level.now c.loop-scene-test.false) c.loop-scene.invariant.next
