use Rattle.std.proofs.Common.{arith, ◌++◌, ◌∷◌, [], sym, subst}
use Rattle.std.proofs.lemmas.Grind.{common_steps}
use Rattle.cn_lives.specs.Lives.{world_of}
use Rattle.cn_lives.specs.Runs.{AreLivesOf}
use Rattle.cn_lives.specs.declared.schedule.Event.TheVariants.{Step}
use Rattle.cn_lives.proofs.Running.{lives_event}
use Rattle.cn_lives.proofs.lives.Lives.step.Goals as goal

pub returns-in-Some-clause-world : goal.returns-in-Some-clause-world
returns-in-Some-clause-world c = grind (arith, common_steps)

pub returns-in-Some-clause-of_plan : goal.returns-in-Some-clause-of_plan
returns-in-Some-clause-of_plan c = λ events lives.
    subst (AreLivesOf c.args.plan.now (events ++ Step c.args.p ∷ []))
    (sym (returns-in-Some-clause-world c))
    (lives_event c.args.plan.now events (world_of c.args.self.now) (Step c.args.p)
    c.requires.process lives)

pub returns-in_default-clause-world : goal.returns-in_default-clause-world
returns-in_default-clause-world c = grind (arith, common_steps)

pub returns-in_default-clause-of_plan : goal.returns-in_default-clause-of_plan
returns-in_default-clause-of_plan c = λ events lives.
    subst (AreLivesOf c.args.plan.now (events ++ Step c.args.p ∷ []))
    (sym (returns-in_default-clause-world c))
    (lives_event c.args.plan.now events (world_of c.args.self.now) (Step c.args.p)
    c.requires.process lives)
