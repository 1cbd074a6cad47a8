use Rattle.std.proofs.Common.{ap, ◌∙◌}
use Rattle.cn_agree.specs.Rounds.{decision_of}
use Rattle.cn_agree.proofs.PlanRounds.{local_read, decision_fixed, decision_in_time}
use Rattle.cn_agree.proofs.round.Round.decision.Goals as goal

pub returns-clause-fixed : goal.returns-clause-fixed
returns-clause-fixed g c =
    decision_fixed _ c.self.view_is c.self.invariant (c.decision.ensures ∙ ap decision_of (local_read c.self.view_is c.from.ensures c.requires c.index.ensures))

pub returns-clause-in_time : goal.returns-clause-in_time
returns-clause-in_time g c =
    decision_in_time c.args.self.now c.args.p c.requires c.decision.result (c.decision.ensures ∙ ap decision_of (local_read c.self.view_is c.from.ensures c.requires c.index.ensures))
