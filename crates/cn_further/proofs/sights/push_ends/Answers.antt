use Rattle.std.proofs.Common.{◌≡◌, ℕ, List, Contains, inl, inr, refl}
use Rattle.std.specs.Prelude.{None}
use Rattle.cn_choice.specs.declared.team.Team.{Team}
use Rattle.cn_further.specs.FurtherNodes.{further_of, next_operation}
use Rattle.cn_further.specs.FurtherSights.{IsEndOf, IsSight}
use Rattle.cn_further.specs.SceneLists.{kept_at}
use Rattle.cn_further.specs.declared.sight.FurtherSight.{FurtherSight}
use Rattle.cn_further.specs.declared.stage.Stage.{Stage}
use Rattle.cn_further.proofs.AllSights.{reached_sight}
use Rattle.cn_further.proofs.ReachedScenes.{all_more, below_next}
use Rattle.cn_further.proofs.sights.push_ends.Goals as goal
use Rattle.cn_further.proofs.sights.push_ends.Goals.{in-Some+in_ok-push_new, in_default}

pub sight_of-requires : goal.sight_of-requires
sight_of-requires c = rw c.as_slice.ensures.value (c.requires.fits.fits c.loop-process.process c.loop-process-test.true)

pub loop-process-preserved : goal.loop-process-preserved
loop-process-preserved c =
    let os = c.args.operations.now in
    let further = further_of c.args.follow_ups.now in
    let team : Team = c.args.team in
    let stages : List Stage = c.args.scene.now.stages.items in
    let i = c.loop-process.invariant in
    let p : ℕ = c.loop-process.process in
    let old : List FurtherSight = c.loop-process.list.items in
    let Has : List FurtherSight → ℕ → Type 0 = λ xs j. next_operation os further j (kept_at stages j) ≡ None
    → (r : FurtherSight) × Contains xs r × IsEndOf team j (kept_at stages j) r in
    elim c.match-sight_of.branch [
      | in-Some+in_ok-push_new w ↦
          (let new : List FurtherSight = w.push_new.new.list.items in
          let sight : FurtherSight = w.in-Some.sight in
          let on = w.in_ok-push_new.ensures.same in
          let more : (s : FurtherSight) → Contains old s → Contains new s = λ s h. (on s).1 (inl h) in
          let end : IsEndOf team p (kept_at stages p) sight = rw c.as_slice.ensures.value at w.in-Some.ensures.told in
          rw w.list-is (record {
            ends = below_next (Has new) p (λ j l e. let x = i.ends j l e in (x.0, more x.0 x.1, x.2)) (λ _. (sight, (on sight).1 (inr refl), end));
            more = λ s h. more s (i.more s h);
            once = λ before. w.in_ok-push_new.ensures.once (i.once before);
            sound = λ t state size at before. all_more old new sight (λ s. (on s).0) (IsSight t state size os further) (i.sound t state size at before)
                (reached_sight t state size os further team c.args.scene.now at p c.loop-process-test.true sight end w.in-Some.ensures.answer);
          }))
      | in_default w ↦ rw w.list-is (record {
        ends = below_next (Has old) p i.ends (λ e. absurd ((rw c.as_slice.ensures.value at w.in_default.ensures.told) e));
        more = i.more;
        once = i.once;
        sound = i.sound;
      })
    ]
