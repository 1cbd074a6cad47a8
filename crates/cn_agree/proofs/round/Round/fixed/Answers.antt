use Rattle.std.proofs.Common.{◌∙◌, arith}
use Rattle.cn_agree.specs.World.{World}
use Rattle.cn_agree.proofs.PlanRounds.{has_root, fixed_none, fixed_some, fixed_valid_of, fixed_since}
use Rattle.cn_agree.proofs.round.Round.fixed.Goals as goal

pub index-root-requires : goal.index-root-requires
index-root-requires g c =
    let w : World g.row.V.Denot = record { nodes = c.self.inside.nodes.items; locals = c.self.inside.locals.items; inputs = c.self.inside.inputs.items; first = c.self.inside.first } in
    let some = has_root w c.self.invariant in omega arith

pub returns-in_err-self-clause-since : goal.returns-in_err-self-clause-since
returns-in_err-self-clause-since g c = fixed_since c.args.self.now c.from_residual.result (c.from_residual.ensures ∙ fixed_none c.self.view_is c.in_err-self.was)

pub returns-clause-value : goal.returns-clause-value
returns-clause-value g c = c.register.ensures ∙ fixed_some c.self.view_is (has_root _ c.self.invariant) c.in_ok-self.was c.index-root.ensures

pub returns-clause-valid : goal.returns-clause-valid
returns-clause-valid g c = fixed_valid_of c.args.self.now c.register.result.now (returns-clause-value g c)

pub returns-clause-since : goal.returns-clause-since
returns-clause-since g c = fixed_since c.args.self.now c.register.result.now (returns-clause-value g c)
