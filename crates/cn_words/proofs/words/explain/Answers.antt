use Rattle.std.proofs.lemmas.Result.{IfOk-weaker}
use Rattle.cn_words.proofs.CommandLemmas.{argument_more, table_more}
use Rattle.cn_words.proofs.words.explain.Goals as goal

pub returns : goal.returns
returns c =
    let with_stocks = argument_more _ c.with_argument-command.result _ _ _ c.with_certificate-command.ensures c.flag.ensures c.with_argument-command.ensures in
    let with_all = argument_more _ c.with_argument-command-2.result _ _ _ with_stocks c.all.ensures c.with_argument-command-2.ensures in
    let with_form = argument_more _ c.with_argument-command-3.result _ _ _ with_all c.form.ensures.2 c.with_argument-command-3.ensures in
    IfOk-weaker c.with_table.result _ _ (λ new is. (c.form.ensures.0, c.form.ensures.1, is))
    (table_more _ c.with_table.result _ with_form c.with_table.ensures)
