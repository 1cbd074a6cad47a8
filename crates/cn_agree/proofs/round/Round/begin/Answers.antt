use Rattle.std.proofs.Common.{◌≡◌, length, ap, arith}
use Rattle.cn_agree.specs.World.{World}
use Rattle.cn_agree.proofs.PlanRounds.{inputs_many, begins_round, begins_of}
use Rattle.cn_agree.proofs.round.Round.begin.Goals as goal

pub index_mut-requires-2 : goal.index_mut-requires-2
index_mut-requires-2 g c =
    let w : World g.row.V.Denot = record { nodes = c.self.inside.nodes.items; locals = c.self.inside.locals.items; inputs = c.self.inside.inputs.items; first = c.self.inside.first } in
    let many : length w.inputs ≡ length w.locals = inputs_many w c.self.invariant in
    let within = c.requires.process in
    let same : length w.locals ≡ length c.args.self.now.locals = ap (λ (u : World g.row.V.Denot). length u.locals) c.self.view_is in
    omega arith

pub invariant_of-self : goal.invariant_of-self
invariant_of-self g c = begins_round c.args.value c.self.view_is c.from.ensures c.from-2.ensures c.requires.process c.requires.not_begun c.self.invariant

pub returns-clause-of_plan : goal.returns-clause-of_plan
returns-clause-of_plan g c = begins_of c.args.value c.self.view_is c.from.ensures c.from-2.ensures c.requires.process c.requires.not_begun
