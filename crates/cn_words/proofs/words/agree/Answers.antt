use Rattle.std.proofs.lemmas.Result.{IfOk-weaker}
use Rattle.cn_words.proofs.CommandLemmas.{argument_more, table_more}
use Rattle.cn_words.proofs.words.agree.Goals as goal

pub returns : goal.returns
returns c =
    let with_inputs = argument_more _ c.with_argument-command.result _ _ _ c.with_certificate-command.ensures c.required_word.ensures c.with_argument-command.ensures in
    let with_schedule = argument_more _ c.with_argument-command-2.result _ _ _ with_inputs c.required_word-2.ensures c.with_argument-command-2.ensures in
    let with_steps = argument_more _ c.with_argument-command-3.result _ _ _ with_schedule c.flag.ensures c.with_argument-command-3.ensures in
    let with_crashes = argument_more _ c.with_argument-command-4.result _ _ _ with_steps c.flag-2.ensures c.with_argument-command-4.ensures in
    let with_shortest = argument_more _ c.with_argument-command-5.result _ _ _ with_crashes c.flag-3.ensures c.with_argument-command-5.ensures in
    let without_read = argument_more _ c.with_argument-command-6.result _ _ _ with_shortest c.flag-4.ensures c.with_argument-command-6.ensures in
    let with_processes = argument_more _ c.with_argument-command-7.result _ _ _ without_read c.processes.ensures c.with_argument-command-7.ensures in
    let with_form = argument_more _ c.with_argument-command-8.result _ _ _ with_processes c.form.ensures.2 c.with_argument-command-8.ensures in
    IfOk-weaker c.with_table.result _ _ (λ new is. (c.form.ensures.0, c.form.ensures.1, is))
    (table_more _ c.with_table.result _ with_form c.with_table.ensures)
