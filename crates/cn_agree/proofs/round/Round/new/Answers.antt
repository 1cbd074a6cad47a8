use Rattle.std.proofs.Common.{◌∙◌, [], sym, subst}
use Rattle.cn_agree.specs.World.{World}
use Rattle.cn_agree.specs.Rounds.{IsRoundOf}
use Rattle.cn_agree.proofs.Running.{first_is, opens}
use Rattle.cn_agree.proofs.round.Round.new.Goals as goal

pub returns-clause-world : goal.returns-clause-world
returns-clause-world g c =
    first_is c.args.plan.now c.in_ok-copies.field-0.items c.in_ok-copies-2.field-0.items c.in_ok-copies-3.field-0.items c.start.result c.from.result c.from-processes.result
    c.start.ensures.start (c.from.ensures ∙ c.nodes.ensures.number) (c.from-processes.ensures ∙ c.processes.ensures.number) c.in_ok-copies.ensures c.in_ok-copies-2.ensures c.in_ok-copies-3.ensures

pub returns-clause-of_plan : goal.returns-clause-of_plan
returns-clause-of_plan g c =
    let T : World g.row.V.Denot → Type 0 = IsRoundOf c.args.plan.now [] in
    subst T (sym (returns-clause-world g c)) (opens c.args.plan.now c.plans_are_sound.ensures.plan c.plans_are_sound.ensures.sound)

pub invariant_of-result : goal.invariant_of-result
invariant_of-result g c = (c.args.plan.now, ([], returns-clause-of_plan g c))
