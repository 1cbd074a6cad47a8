use Rattle.std.proofs.Common.{◌∙◌, ap, length, slice_index_or, arith}
use Rattle.cn_proto.specs.Plan.{Plan, protocol_of}
use Rattle.cn_proto.specs.Protocol.{nowhere}
use Rattle.cn_lives.specs.Lives.{world_of}
use Rattle.cn_lives.specs.Turns.{IsTurn}
use Rattle.cn_lives.specs.declared.local.Local.TheVariants.{Active}
use Rattle.cn_lives.proofs.Fitting.{fits, local_read, process_within, turn_at}
use Rattle.cn_lives.proofs.lives.Lives.turn.Goals as goal
use Rattle.cn_lives.proofs.lives.Lives.turn.Goals.{After-path-path}

-- the turn of the process
turn : (c : After-path-path) → IsTurn c.args.plan.now (world_of c.args.self.now) c.args.p (record {
  here = slice_index_or c.path-path.result.now c.in-Active.place nowhere;
  place = c.in-Active.place;
  places = length c.path-path.result.now;
  value = c.in-Active.value;
  stage = c.in-Active.stage;
})
turn c =
    let p = c.args.plan.now in
    let w = world_of c.args.self.now in
    let laws = c.recording_plans_are_sound.ensures in
    let lives = c.requires.of_plan in
    let h = fits p laws.plan.is_plan laws.sound lives.0 w lives.1 in
    let within = process_within p laws.plan.is_plan laws.sound w c.args.p h c.requires.process in
    turn_at p laws.plan.is_plan laws.sound w h c.args.p c.in-Active.place c.in-Active.value
    c.in-Active.stage c.requires.process
    (local_read w c.args.p c.from.result c.index.result.now
    (Active c.in-Active.place c.in-Active.value c.in-Active.stage) c.from.ensures within
    c.index.ensures c.in-Active.is) c.path-path.result.now
    (c.path-path.ensures ∙ ap (λ (q : Plan). (protocol_of q).path c.args.p) c.plan.ensures)

pub index-requires : goal.index-requires
index-requires c =
    let p = c.args.plan.now in
    let w = world_of c.args.self.now in
    let laws = c.recording_plans_are_sound.ensures in
    let lives = c.requires.of_plan in
    let h = fits p laws.plan.is_plan laws.sound lives.0 w lives.1 in
    let within = process_within p laws.plan.is_plan laws.sound w c.args.p h c.requires.process in
    omega (arith, within, c.from.ensures, c.args.self.now.locals.ok.0)

pub offset_bounds-path-place : goal.offset_bounds-path-place
offset_bounds-path-place c =
    let small = c.path-path.type_inv.1 in let less = (turn c).place in omega arith

pub bounds-path-place : goal.bounds-path-place
bounds-path-place c = (turn c).place

pub returns-clause-some : goal.returns-clause-some
returns-clause-some c = turn (goal.at.returns-clause-some c).After-path-path
