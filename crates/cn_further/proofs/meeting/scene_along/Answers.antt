use Rattle.std.proofs.Common.{ℕ, ◌<◌, ◌-◌, length, arith, rules}
use Rattle.cn_further.specs.FurtherNodes.{further_of}
use Rattle.cn_further.proofs.Meets.{along_first, along_more}
use Rattle.cn_further.proofs.meeting.scene_along.Goals as goal

pub loop-place-init : goal.loop-place-init
loop-place-init c = record {
  scene = (search rules, search rules);
  along = along_first c.args.table.now c.args.state.0 0 c.args.operations.now (further_of c.args.follow_ups.now) c.first-scene.result c.args.moves.now c.first-scene.ensures.scene;
}

pub loop-place-preserved : goal.loop-place-preserved
loop-place-preserved c =
    let i : ℕ = c.loop-place.place - 1 in
    let l : i < length c.args.moves.now = omega arith in record {
      scene = c.after-scene.ensures.scene;
      along = along_more c.args.table.now c.args.state.0 0 c.args.operations.now (further_of c.args.follow_ups.now) c.args.moves.now i c.loop-place.place c.loop-place.scene c.after-scene.result (omega arith) l (c.requires.moves i 0 l) c.loop-place.invariant.along c.after-scene.ensures.next;
    }
