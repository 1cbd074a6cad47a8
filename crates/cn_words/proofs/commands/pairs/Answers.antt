use Rattle.std.proofs.Common.{codes}
use Rattle.cn_words.specs.GivenCommands.{rows_in}
use Rattle.cn_words.proofs.GivenLemmas.{wants}
use Rattle.cn_words.proofs.commands.pairs.Goals as goal

pub returns-in_err-document_form : goal.returns-in_err-document_form
returns-in_err-document_form c = rw c.from_residual.ensures (λ command is.
    let w = wants (codes "pairs") (rows_in c.args.words.now) command is in c.in_err-document_form.ensures w.0 w.1)
