use Rattle.std.proofs.Common.{arith}
use Rattle.std.specs.Prelude.{slice_index}
use Rattle.cn_shortest.proofs.Dividing.{size_most}
use Rattle.cn_shortest.proofs.examples.team_size.Goals as goal

pub overflow_add-size : goal.overflow_add-size
overflow_add-size c =
    omega (arith, c.loop-process.invariant, size_most (λ p. slice_index c.args.teams.now p) c.loop-process.process c.args.team, c.loop-process-test.true, c.requires)
