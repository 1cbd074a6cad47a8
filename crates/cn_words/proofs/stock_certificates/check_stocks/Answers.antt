use Rattle.std.proofs.Common.{codes}
use Rattle.cn_words.specs.GivenCommands.{rows_in}
use Rattle.cn_words.proofs.GivenLemmas.{wants}
use Rattle.cn_words.proofs.stock_certificates.check_stocks.Goals as goal

pub returns-in_err-certificate : goal.returns-in_err-certificate
returns-in_err-certificate c = rw c.from_residual.ensures (λ command is.
    let w = wants (codes "check") (rows_in c.args.words.now) command is in c.in_err-certificate.ensures w.0.0 w.0.1)

pub returns-in_err-form : goal.returns-in_err-form
returns-in_err-form c = rw c.from_residual-in_err-form.ensures (λ command is.
    let w = wants (codes "check") (rows_in c.args.words.now) command is in c.in_err-form.ensures w.1.0 w.1.1)
