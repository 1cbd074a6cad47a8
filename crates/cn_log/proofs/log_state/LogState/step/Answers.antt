use Rattle.std.proofs.Common.{sym, ◌∙◌}
use Rattle.cn_log.proofs.StateLemmas.Fields.{caller_here, keeps_shown, read_at}
use Rattle.cn_log.proofs.log_state.LogState.step.Goals as goal

pub returns-in-Looks-clause-keeps : goal.returns-in-Looks-clause-keeps
returns-in-Looks-clause-keeps c = λ s keeps may.
    let here = caller_here _ (keeps_shown keeps c.self.view_is) may.process (read_at c.self.inside.callers.items c.index.ensures c.from.ensures) in
    c.look.ensures.keeps s c.in-Looks.field-0 c.in-Looks.field-2 (record { keeps = keeps; process = may.process; phase_is = sym here.phase ∙ c.in-Looks.is })
