use Rattle.cn_words.specs.GivenCommands.{rows_in}
use Rattle.cn_words.proofs.GivenLemmas.{no_number}
use Rattle.cn_words.proofs.commands.optional_number.Goals as goal

pub returns-in_err-number : goal.returns-in_err-number
returns-in_err-number c = rw c.from_residual.ensures (λ given is.
    no_number c.args.id.now (rows_in c.args.words.now) c.word.result given c.is_none.result c.word.ensures c.is_none.ensures c.if-is_none.false c.in_err-number.ensures is)
