use Rattle.std.proofs.Common.{arith}
use Rattle.cn_lives.specs.Lives.{world_of}
use Rattle.cn_lives.proofs.Fitting.{fits, process_within}
use Rattle.cn_lives.proofs.lives.Lives.memory.Goals as goal

pub local-requires : goal.local-requires
local-requires c =
    let p = c.args.plan.now in
    let w = world_of c.args.self.now in
    let laws = c.recording_plans_are_sound.ensures in
    let lives = c.requires.of_plan in
    let h = fits p laws.plan.is_plan laws.sound lives.0 w lives.1 in
    process_within p laws.plan.is_plan laws.sound w c.args.p h c.requires.process
