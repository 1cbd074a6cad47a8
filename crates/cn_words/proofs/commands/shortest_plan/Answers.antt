use Rattle.std.proofs.Common.{refl}
use Rattle.cn_words.specs.GivenCommands.{rows_in}
use Rattle.cn_words.proofs.GivenLemmas.{plan_wants}
use Rattle.cn_words.proofs.commands.shortest_plan.Goals as goal

pub returns-in_err-plan_table : goal.returns-in_err-plan_table
returns-in_err-plan_table c = rw c.from_residual.ensures (λ invocation is.
    let w = plan_wants (rows_in c.args.words.now) invocation c.requires.shortest is in
    c.in_err-plan_table.ensures w.0.0 w.0.1)

pub returns-in_err-optional_number : goal.returns-in_err-optional_number
returns-in_err-optional_number c = rw c.from_residual-in_err-optional_number.ensures (λ invocation is.
    let w = plan_wants (rows_in c.args.words.now) invocation c.requires.shortest is in
    c.in_err-optional_number.ensures w.1.0 w.1.1)

pub returns-in_err-plan_words : goal.returns-in_err-plan_words
returns-in_err-plan_words c = rw c.from_residual-in_err-plan_words.ensures (λ invocation is.
    let w = plan_wants (rows_in c.args.words.now) invocation c.requires.shortest is in
    c.in_err-plan_words.ensures w.2.0 w.2.1)

pub returns : goal.returns
returns c = (refl, c.requires.shortest, c.requires.lasting, c.is_flag_set.ensures, c.in_ok-plan_table.ensures, c.in_ok-optional_number.ensures, c.in_ok-plan_words.ensures)
