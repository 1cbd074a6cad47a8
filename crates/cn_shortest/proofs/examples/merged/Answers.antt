use Rattle.std.proofs.Common.{arith, sym}
use Rattle.std.specs.Prelude.{slice_index}
use Rattle.cn_shortest.proofs.ExampleTeams.{example_merged, some_first, some_second}
use Rattle.cn_shortest.proofs.examples.merged.Goals as goal

pub returns-in_default : goal.returns-in_default
returns-in_default c t sight counts new is both are =
    absurd (some_first c.args.n (λ p. slice_index c.args.example.now.teams p) counts c.args.a c.args.b is.counted c.requires.a.0 c.requires.a.1 c.requires.b.0 c.requires.b.1 both
    (λ g l. c.team_of_size.ensures.none c.in_default.is g l (λ e. omega (arith, e, l))))

pub returns-in_default-team_of_size : goal.returns-in_default-team_of_size
returns-in_default-team_of_size c t sight counts new is both are =
    absurd (some_second c.args.n (λ p. slice_index c.args.example.now.teams p) counts c.args.a c.args.b is.counted c.requires.a.0 c.requires.a.1 c.requires.b.0 c.requires.b.1 both
    c.in-Some.first c.in-Some.ensures.some.2 (c.team_of_size-2.ensures.none c.in_default-team_of_size.is))

pub returns : goal.returns
returns c t sight counts new is both are =
    let u = c.in-Some.ensures.some in
    let v = c.in-Some-team_of_size.ensures.some in
    example_merged t sight c.args.n counts new c.args.example.now c.in-Some.first c.in-Some-team_of_size.second c.args.a c.args.b c.moved.result c.requires.n is v.0 u.0 (λ e. v.1 (sym e)) c.requires.a.0 c.requires.b.0 u.2 v.2 are c.moved.ensures
