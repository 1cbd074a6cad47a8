use Rattle.std.proofs.Common.{◌≡◌, ℕ, List, Contains, length, rules, subst}
use Rattle.cn_choice.specs.declared.team.Team.{Team}
use Rattle.cn_further.specs.FurtherNodes.{further_of}
use Rattle.cn_further.specs.FurtherSights.{IsReached}
use Rattle.cn_further.specs.SceneLists.{AgreeFor, IsListed, first_scene, scene_next, scene_of}
use Rattle.cn_further.specs.declared.scene.Scene.{Scene}
use Rattle.cn_unread.specs.Nodes.{Scene as Whole, team_of}
use Rattle.cn_further.proofs.ReachedScenes.{all_more, below_next, listed_more, reached_first}
use Rattle.cn_further.proofs.Steps.{agree_back, listed_same}
use Rattle.cn_further.proofs.levels.first_level.Goals as goal
use Rattle.cn_further.proofs.levels.first_level.Goals.{then-eq+in_ok-add_scene, else-eq}

pub loop-process-preserved : goal.loop-process-preserved
loop-process-preserved c =
    let t = c.args.table.now in
    let os = c.args.operations.now in
    let n = length os in
    let further = further_of c.args.follow_ups.now in
    let state : ℕ = c.args.state.0 in
    let size : ℕ = c.args.size in
    let team : Team = c.args.team in
    let i = c.loop-process.invariant in
    let p : ℕ = c.loop-process.process in
    let old : List Scene = c.loop-process.scenes.items in
    let First : List Scene → ℕ → Type 0 = λ xs j. team_of size j ≡ team → IsListed xs n (scene_next t os further (first_scene state) j) in
    elim c.if-eq.branch [
      | then-eq+in_ok-add_scene w ↦
          (let new : List Scene = w.add_scene.new.scenes.items in
          let next : Scene = w.after-next.result in
          let on = w.in_ok-add_scene.ensures in
          let more : (s : Scene) → Contains old s → Contains new s = on.more in
          let after : AgreeFor n (scene_of next) (scene_next t os further (first_scene state) p) =
          subst (λ (v : Whole). AgreeFor n (scene_of next) (scene_next t os further v p)) c.first-first.ensures.scene w.after-next.ensures.next in
          let here : IsListed new n (scene_next t os further (first_scene state) p) =
          listed_same new (length next.stages.items) n (scene_of next) (scene_next t os further (first_scene state) p) w.after-next.ensures.scene.1
          (agree_back n (scene_of next) (scene_next t os further (first_scene state) p) after) on.listed in
          rw w.scenes-is (record {
            first = below_next (First new) p (λ j l e. listed_more old new n (scene_next t os further (first_scene state) j) more (i.first j l e)) (λ _. here);
            reached = all_more old new next on.from (IsReached t state size os further team 0) i.reached
                (reached_first t state size os further team p next c.loop-process-test.true (search rules) w.after-next.ensures.scene after);
          }))
      | else-eq w ↦ rw w.scenes-is (record {
        first = below_next (First old) p i.first (λ e. absurd (search rules));
        reached = i.reached;
      })
    ]
