use Rattle.cn_words.proofs.CommandLemmas.{argument_more}
use Rattle.cn_words.proofs.words.with_certificate.Goals as goal

pub returns : goal.returns
returns c =
    argument_more _ c.with_argument.result _ _ _ c.bare_command-command.ensures c.required_word-certificate.ensures c.with_argument.ensures
