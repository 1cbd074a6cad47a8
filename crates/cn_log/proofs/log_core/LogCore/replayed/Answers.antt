use Rattle.std.proofs.Common.{◌∙◌, arith, subst}
use Rattle.cn_agree.specs.Rounds.{RunsBy}
use Rattle.cn_log.specs.Agreement.{RoundsAgree}
use Rattle.cn_log.specs.Opening.{Opening, setting_of}
use Rattle.cn_log.proofs.StateLemmas.Fields.{keeps_shown, caller_here, read_at}
use Rattle.cn_log.proofs.BoundLemmas.Progress.{seen_few}
use Rattle.cn_log.proofs.log_core.LogCore.replayed.Goals as goal

pub returns-clause-range : goal.returns-clause-range
returns-clause-range c = rw (← c.self.view_is)
    (let keeps = keeps_shown c.self.invariant.0 (c.behind-self.view_is ∙ c.deref-2.ensures) in
    let here = (caller_here _ keeps (rw (← c.self.view_is) at c.requires) (read_at c.behind-self.inside.callers.items c.index.ensures c.from.ensures)).replayed_slots in
    let agrees = subst (λ (o : Opening). RoundsAgree (setting_of o) (RunsBy o.plan)) c.deref.ensures c.openings_are_valid.ensures.agrees in
    let few = seen_few _ _ agrees c.self.inside.schedule.items c.self.invariant.0.events c.args.p in
    omega arith)
