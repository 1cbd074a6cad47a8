use Rattle.std.proofs.Common.{◌<◌, ◌≡◌, ◌++◌, ◌∷◌, [], length, slice_index_or, slice_set, ap, sym, ◌∙◌, subst, arith}
use Rattle.cn_proto.specs.Plan.{protocol_of}
use Rattle.cn_proto.specs.Protocol.{nowhere}
use Rattle.cn_agree.specs.Steps.{after_step}
use Rattle.cn_agree.specs.Rounds.{IsRound, IsRoundOf, fixed_value}
use Rattle.cn_agree.specs.World.{World}
use Rattle.cn_agree.proofs.PlanRounds.{IsTurn, local_read, node_read, node_within, process_within, turn_read, steps_is, under_way, next_decides, round_steps, fixed_goes_on}
use Rattle.cn_agree.proofs.round.Round.step.Goals as goal
use Rattle.cn_agree.proofs.round.Round.step.Goals.{After-path-path}

-- the turn of the process
turn : (g : _) (c : After-path-path g)
    → IsTurn c.args.plan.now c.args.self.now c.args.p c.in-Active.value
    (record { here = slice_index_or c.path-path.result.now c.in-Active.place nowhere; place = c.in-Active.place; places = length c.path-path.result.now; stage = c.in-Active.stage })
turn g c = turn_read c.args.plan.now c.requires.of_plan c.requires.process c.plans_are_sound.ensures.reachable c.self.view_is c.from.ensures c.index.ensures c.in-Active.is c.path-path.ensures

pub offset_bounds-path-place : goal.offset_bounds-path-place
offset_bounds-path-place g c = let small = c.path-path.type_inv.1 in let less = (turn g c).place in omega arith

pub bounds-path-place : goal.bounds-path-place
bounds-path-place g c = (turn g c).place

pub index_mut-node-requires : goal.index_mut-node-requires
index_mut-node-requires g c = let less : c.from-in-Active.result < length c.self.inside.nodes.items = node_within c.self.view_is c.from-in-Active.ensures
    (turn g (goal.at.index_mut-node-requires g c).After-path-path).node in omega arith

pub act-requires-clause-role : goal.act-requires-clause-role
act-requires-clause-role g c = (turn g (goal.at.act-requires-clause-role g c).After-path-path).role

pub act-requires-clause-place : goal.act-requires-clause-place
act-requires-clause-place g c = (turn g (goal.at.act-requires-clause-place g c).After-path-path).place

pub act-requires-clause-state : goal.act-requires-clause-state
act-requires-clause-state g c =
    let t = turn g (goal.at.act-requires-clause-state g c).After-path-path in
    rw (node_read (protocol_of c.args.plan.now) c.self.view_is c.from-in-Active.ensures t.node c.index_mut-node.ensures.value) t.state

pub unreachable-requires : goal.unreachable-requires
unreachable-requires g c =
    let runs = c.requires.of_plan in
    let here = local_read c.self.view_is c.from.ensures (process_within c.args.plan.now runs.0 c.args.self.now runs.1 c.args.p c.requires.process) c.index.ensures in
    under_way here c.requires.begun c.requires.undecided c.in-NotBegun.is

-- the world after the step
after : (g : _) (c : goal.After-self-in-Active-1 g) → (let w : World g.row.V.Denot = record {
  nodes = c.self.inside.nodes.items;
  locals = c.self.inside.locals.items;
  inputs = c.self.inside.inputs.items;
  first = c.self.inside.first;
} in
    record w {
      nodes = slice_set w.nodes c.from-in-Active.result c.act.new.node;
      locals = slice_set w.locals c.from-in-Active-2.result c.act.new.local;
      first = c.first_after-self-inside.result;
    }
    ≡ after_step (protocol_of c.args.plan.now) c.args.p c.args.self.now)
after g c =
    let t = turn g (goal.at.returns-clause-world g c).After-path-path in
    let local = local_read c.self.view_is c.from-in-Active-2.ensures t.process c.index_mut-local.ensures.value ∙ t.local in
    steps_is c.args.plan.now t c.self.view_is c.from-in-Active-2.ensures c.from-in-Active.ensures c.index_mut-node.ensures.value (c.act.ensures.node c.in-Active.value local)
    (c.act.ensures.local c.in-Active.value local) c.first_after-self-inside.ensures

pub returns-clause-world : goal.returns-clause-world
returns-clause-world g c = after g c

pub returns-clause-of_plan : goal.returns-clause-of_plan
returns-clause-of_plan g c = λ schedule r.
    (let T : World g.row.V.Denot → Type 0 = IsRoundOf c.args.plan.now (schedule ++ c.args.p ∷ []) in
    subst T (sym (after g c)) (round_steps c.args.plan.now schedule c.args.self.now r c.args.p c.requires.process c.requires.begun))

pub invariant_of-self : goal.invariant_of-self
invariant_of-self g c =
    let runs = c.requires.of_plan in
    let T : World g.row.V.Denot → Type 0 = IsRound in
    subst T (sym (after g c)) (c.args.plan.now, (runs.0 ++ c.args.p ∷ [], round_steps c.args.plan.now runs.0 c.args.self.now runs.1 c.args.p c.requires.process c.requires.begun))

pub returns-clause-decision : goal.returns-clause-decision
returns-clause-decision g c =
    let t = turn g (goal.at.returns-clause-decision g c).After-path-path in
    c.decision.ensures ∙ next_decides _ c.self.view_is c.from-in-Active-2.ensures t.process

pub returns-clause-fixed : goal.returns-clause-fixed
returns-clause-fixed g c = λ x e. ap fixed_value (after g c) ∙ fixed_goes_on c.args.plan.now c.args.self.now c.requires.of_plan c.args.p c.requires.process x e

pub index-requires : goal.index-requires
index-requires g c =
    let runs = c.requires.of_plan in
    let within = process_within c.args.plan.now runs.0 c.args.self.now runs.1 c.args.p c.requires.process in
    let same = ap (λ (w : World g.row.V.Denot). length w.locals) c.self.view_is in
    omega (arith, within, same, c.from.ensures, c.self.inside.locals.ok)

pub index_mut-local-requires : goal.index_mut-local-requires
index_mut-local-requires g c =
    let runs = c.requires.of_plan in
    let within = process_within c.args.plan.now runs.0 c.args.self.now runs.1 c.args.p c.requires.process in
    let same = ap (λ (w : World g.row.V.Denot). length w.locals) c.self.view_is in
    omega (arith, within, same, c.from-in-Active-2.ensures, c.self.inside.locals.ok)
