use Rattle.std.proofs.Common.{◌∙◌, sym}
use Rattle.cn_log.specs.Opening.{setting}
use Rattle.cn_log.proofs.StateLemmas.Faults.{first_fault}
use Rattle.cn_log.proofs.log_core.LogCore.take.Goals as goal

pub returns-in-Some-clause-first : goal.returns-in-Some-clause-first
returns-in-Some-clause-first c = λ rest.
    first_fault (setting c.args.self.now) c.args.self.now.schedule rest c.args.event c.in-Some.fault c.logs_are_linearized.ensures.events (sym c.fault_of.ensures ∙ c.in-Some.is)
