use Rattle.std.proofs.Common.{◌<◌, ◌↔◌, Option, IsNone, IsSome, length, slice_index_or, sym, subst, arith}
use Rattle.cn_proto.specs.Plan.{protocol_of}
use Rattle.cn_proto.specs.Protocol.{nowhere}
use Rattle.cn_agree.specs.Rounds.{decision_at}
use Rattle.cn_agree.specs.declared.next_action.Action.{Action}
use Rattle.cn_agree.proofs.PlanRounds.{IsTurn, node_read, node_within, turn_read}
use Rattle.cn_agree.proofs.Telling.{action_is, none_if_decided}
use Rattle.cn_agree.proofs.round.Round.next_action.Goals as goal
use Rattle.cn_agree.proofs.round.Round.next_action.Goals.{After-path-path}

-- the turn of the process
turn : (g : _) (c : After-path-path g)
    → IsTurn c.args.plan.now c.args.self.now c.args.p c.in-Active.value
    (record { here = slice_index_or c.path-path.result.now c.in-Active.place nowhere; place = c.in-Active.place; places = length c.path-path.result.now; stage = c.in-Active.stage })
turn g c = turn_read c.args.plan.now c.requires.of_plan c.requires.process c.plans_are_sound.ensures.reachable c.self.view_is c.from.ensures c.index.ensures c.in-Active.is c.path-path.ensures

pub offset_bounds-path-place : goal.offset_bounds-path-place
offset_bounds-path-place g c = let small = c.path-path.type_inv.1 in let less = (turn g c).place in omega arith

pub bounds-path-place : goal.bounds-path-place
bounds-path-place g c = (turn g c).place

pub index-node-requires : goal.index-node-requires
index-node-requires g c = let less : c.from-in-Active.result < length c.self.inside.nodes.items = node_within c.self.view_is c.from-in-Active.ensures
    (turn g (goal.at.index-node-requires g c).After-path-path).node in omega arith

pub action_at-requires-clause-role : goal.action_at-requires-clause-role
action_at-requires-clause-role g c = (turn g (goal.at.action_at-requires-clause-role g c).After-path-path).role

pub action_at-requires-clause-place : goal.action_at-requires-clause-place
action_at-requires-clause-place g c = (turn g (goal.at.action_at-requires-clause-place g c).After-path-path).place

pub action_at-requires-clause-state : goal.action_at-requires-clause-state
action_at-requires-clause-state g c =
    let t = turn g (goal.at.action_at-requires-clause-state g c).After-path-path in
    rw (node_read (protocol_of c.args.plan.now) c.self.view_is c.from-in-Active.ensures t.node c.index-node.ensures) t.state

pub returns-in-Active-clause-action : goal.returns-in-Active-clause-action
returns-in-Active-clause-action g c =
    let t = turn g (goal.at.returns-in-Active-clause-action g c).After-path-path in
    action_is c.args.plan.now t (node_read (protocol_of c.args.plan.now) c.self.view_is c.from-in-Active.ensures t.node c.index-node.ensures) c.action_at.ensures.action

pub returns-in-Active-clause-decided : goal.returns-in-Active-clause-decided
returns-in-Active-clause-decided g c =
    let T : Option (Action g.row.V.Denot) → Type 0 = λ told. IsNone told ↔ IsSome (decision_at c.args.self.now c.args.p) in
    subst T (sym (returns-in-Active-clause-action g c)) (none_if_decided c.args.plan.now c.requires.of_plan.0 c.args.self.now c.requires.of_plan.1 c.args.p c.requires.process c.requires.begun)
