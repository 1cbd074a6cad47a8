use Rattle.std.proofs.Common.{codes}
use Rattle.cn_words.specs.GivenCommands.{rows_in}
use Rattle.cn_words.proofs.GivenLemmas.{wants}
use Rattle.cn_words.proofs.commands.replay.Goals as goal

pub returns-in_err-opening : goal.returns-in_err-opening
returns-in_err-opening c = rw c.from_residual.ensures (λ command is.
    let w = wants (codes "replay") (rows_in c.args.words.now) command is in c.in_err-opening.ensures w.0.0 w.0.1)

pub returns-in_err-list : goal.returns-in_err-list
returns-in_err-list c = rw c.from_residual-in_err-list.ensures (λ command is.
    let w = wants (codes "replay") (rows_in c.args.words.now) command is in c.in_err-list.ensures w.1.0 w.1.1)

pub returns-in_err-answer_form : goal.returns-in_err-answer_form
returns-in_err-answer_form c = rw c.from_residual-in_err-answer_form.ensures (λ command is.
    let w = wants (codes "replay") (rows_in c.args.words.now) command is in c.in_err-answer_form.ensures w.2.0 w.2.1)
