use Rattle.std.proofs.Common.{◌≡◌, ◌⊎◌, ◌+◌, ℕ, List, Contains, inl, inr, length}
use Rattle.cn_further.specs.FurtherNodes.{further_of}
use Rattle.cn_further.specs.FurtherSights.{IsReached}
use Rattle.cn_further.specs.SceneLists.{IsListed, scene_next, scene_of}
use Rattle.cn_further.specs.declared.scene.Scene.{Scene}
use Rattle.cn_further.proofs.ReachedScenes.{all_more, below_next, listed_more, reached_next}
use Rattle.cn_further.proofs.Steps.{agree_back, listed_same}
use Rattle.cn_further.proofs.levels.add_next.Goals as goal
use Rattle.cn_further.proofs.levels.add_next.Goals.{in-Some+in_ok-add_scene, in_default}

pub loop-process-preserved : goal.loop-process-preserved
loop-process-preserved c =
    let t = c.args.table.now in
    let os = c.args.operations.now in
    let n = length os in
    let further = further_of c.args.follow_ups.now in
    let scene = c.args.scene.now in
    let i = c.loop-process.invariant in
    let p : ℕ = c.loop-process.process in
    let old : List Scene = c.loop-process.scenes.items in
    let Leads : List Scene → ℕ → Type 0 = λ xs j. (scene_next t os further (scene_of scene) j ≡ scene_of scene) ⊎ IsListed xs n (scene_next t os further (scene_of scene) j) in
    elim c.match-next_of.branch [
      | in-Some+in_ok-add_scene w ↦
          (let new : List Scene = w.add_scene.new.scenes.items in
          let next = w.in-Some.next in
          let on = w.in_ok-add_scene.ensures in
          let more : (s : Scene) → Contains old s → Contains new s = on.more in
          let kept : (j : ℕ) → Leads old j → Leads new j = λ j h. elim h [
            | inl same ↦ inl same
            | inr there ↦ inr (listed_more old new n (scene_next t os further (scene_of scene) j) more there)
          ] in
          let here : IsListed new n (scene_next t os further (scene_of scene) p) =
          listed_same new (length next.stages.items) n (scene_of next) (scene_next t os further (scene_of scene) p) w.in-Some.ensures.scene.1
          (agree_back n (scene_of next) (scene_next t os further (scene_of scene) p) w.in-Some.ensures.next) on.listed in
          rw w.scenes-is (record {
            next = below_next (Leads new) p (λ j l. kept j (i.next j l)) (inr here);
            more = λ s h. more s (i.more s h);
            reached = λ state size count team at before. all_more old new next on.from (IsReached t state size os further team (count + 1)) (i.reached state size count team at before)
                (reached_next t state size os further team count p scene next c.loop-process-test.true at w.in-Some.ensures.scene w.in-Some.ensures.done w.in-Some.ensures.next);
          }))
      | in_default w ↦ rw w.scenes-is (record {
        next = below_next (Leads old) p i.next (inl w.in_default.ensures.next);
        more = i.more;
        reached = i.reached;
      })
    ]
