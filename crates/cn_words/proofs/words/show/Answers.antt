use Rattle.std.proofs.lemmas.Result.{IfOk-weaker}
use Rattle.cn_words.proofs.CommandLemmas.{argument_more, table_more}
use Rattle.cn_words.proofs.words.show.Goals as goal

pub returns : goal.returns
returns c =
    let with_certificate = argument_more _ c.with_argument-command.result _ _ _ c.bare_command-command.ensures c.optional_certificate.ensures c.with_argument-command.ensures in
    let with_recoverable = argument_more _ c.with_argument-command-2.result _ _ _ with_certificate c.flag.ensures c.with_argument-command-2.ensures in
    let with_shortest = argument_more _ c.with_argument-command-3.result _ _ _ with_recoverable c.flag-2.ensures c.with_argument-command-3.ensures in
    let without_read = argument_more _ c.with_argument-command-4.result _ _ _ with_shortest c.flag-3.ensures c.with_argument-command-4.ensures in
    let with_processes = argument_more _ c.with_argument-command-5.result _ _ _ without_read c.processes.ensures c.with_argument-command-5.ensures in
    let with_form = argument_more _ c.with_argument-command-6.result _ _ _ with_processes c.form.ensures.2 c.with_argument-command-6.ensures in
    let with_object = argument_more _ c.with_argument-command-7.result _ _ _ with_form c.value_option.ensures c.with_argument-command-7.ensures in
    let with_start = argument_more _ c.with_argument-command-8.result _ _ _ with_object c.value_option-2.ensures c.with_argument-command-8.ensures in
    let with_prefix = argument_more _ c.with_argument-command-9.result _ _ _ with_start c.value_option-3.ensures c.with_argument-command-9.ensures in
    IfOk-weaker c.with_table.result _ _ (λ new is. (c.form.ensures.0, c.form.ensures.1, is))
    (table_more _ c.with_table.result _ with_prefix c.with_table.ensures)
