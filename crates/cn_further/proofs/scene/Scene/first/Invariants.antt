use Rattle.std.proofs.Common.{◌≡◌, replicate}
use Rattle.cn_further.specs.declared.stage.Stage.TheVariants.{Waiting}
use Rattle.cn_further.proofs.scene.Scene.first.Given as goal

abbrev pub invariant-loop-process : goal.invariant-loop-process
invariant-loop-process l = l.stages.items ≡ replicate l._process Waiting
