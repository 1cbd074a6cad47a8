use Rattle.cn_words.proofs.CommandLemmas.{table_added}
use Rattle.cn_words.proofs.words.with_table.Goals as goal

pub returns : goal.returns
returns c =
    table_added c.args.command c.with_argument-with_option.result c.with_argument.result _ _ c.table_option.ensures c.file_word.ensures
    c.with_argument-with_option.ensures c.with_argument.ensures
