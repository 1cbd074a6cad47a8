use Rattle.std.proofs.Common.{codes}
use Rattle.cn_words.specs.GivenCommands.{rows_in}
use Rattle.cn_words.proofs.GivenLemmas.{wants}
use Rattle.cn_words.proofs.commands.show.Goals as goal

pub returns-in_err-certificate : goal.returns-in_err-certificate
returns-in_err-certificate c = rw c.from_residual.ensures (λ command is.
    let w = wants (codes "show") (rows_in c.args.words.now) command is in c.in_err-certificate.ensures w.0.0 w.0.1)

pub returns-in_err-plan_words : goal.returns-in_err-plan_words
returns-in_err-plan_words c = rw c.from_residual-in_err-plan_words.ensures (λ command is.
    let w = wants (codes "show") (rows_in c.args.words.now) command is in c.in_err-plan_words.ensures w.1.0 w.1.1)
