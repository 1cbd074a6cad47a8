use Rattle.std.proofs.Common.{arith, ◌++◌, ◌∷◌, [], sym, subst}
use Rattle.std.proofs.lemmas.Grind.{common_steps}
use Rattle.cn_lives.specs.Lives.{world_of}
use Rattle.cn_lives.specs.Runs.{AreLivesOf}
use Rattle.cn_lives.specs.declared.schedule.Event.TheVariants.{Crash}
use Rattle.cn_lives.proofs.Fitting.{fits, process_within}
use Rattle.cn_lives.proofs.Running.{lives_event}
use Rattle.cn_lives.proofs.lives.Lives.crash.Goals as goal

pub index_mut-requires : goal.index_mut-requires
index_mut-requires c =
    let p = c.args.plan.now in
    let w = world_of c.args.self.now in
    let laws = c.recording_plans_are_sound.ensures in
    let lives = c.requires.of_plan in
    let h = fits p laws.plan.is_plan laws.sound lives.0 w lives.1 in
    let within = process_within p laws.plan.is_plan laws.sound w c.args.p h c.requires.process in
    omega (arith, within, c.from-2.ensures, c.args.self.now.locals.ok.0)

pub returns-clause-world : goal.returns-clause-world
returns-clause-world c = grind (arith, common_steps)

pub returns-clause-of_plan : goal.returns-clause-of_plan
returns-clause-of_plan c = λ events lives.
    subst (AreLivesOf c.args.plan.now (events ++ Crash c.args.p ∷ []))
    (sym (returns-clause-world c))
    (lives_event c.args.plan.now events (world_of c.args.self.now) (Crash c.args.p)
    c.requires.process lives)
