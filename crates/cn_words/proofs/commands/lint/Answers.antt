use Rattle.std.proofs.Common.{codes}
use Rattle.cn_words.specs.GivenCommands.{rows_in}
use Rattle.cn_words.proofs.GivenLemmas.{wants}
use Rattle.cn_words.proofs.commands.lint.Goals as goal

pub returns-in_err-answer_form : goal.returns-in_err-answer_form
returns-in_err-answer_form c = rw c.from_residual.ensures (λ command is.
    let w = wants (codes "lint") (rows_in c.args.words.now) command is in c.in_err-answer_form.ensures w.0 w.1)
