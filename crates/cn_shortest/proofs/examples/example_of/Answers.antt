use Rattle.std.proofs.Common.{◌≡◌, arith}
use Rattle.cn_shortest.proofs.ExampleTeams.{example_found}
use Rattle.cn_shortest.proofs.examples.example_of.Goals as goal

pub returns : goal.returns
returns c t sight counts is are =
    let end : c.loop-process.process ≡ c.args.n = omega (arith, c.loop-process-test.false, c.loop-process.auto.process-end) in
    let so = c.loop-process.invariant in
    example_found t sight c.args.n counts c.args.division.now c.loop-process.operations c.loop-process.teams c.requires.n is are (λ p l. so.same p (omega (arith, l, end))) (λ p l. so.none p (omega (arith, l, end))) (λ p l. so.alike p (omega (arith, l, end)))
