use Rattle.std.proofs.Common.{◌≡◌, ◌∙◌, false, refl, sym, true}
use Rattle.cn_words.specs.GivenCommands.{rows_in}
use Rattle.cn_words.proofs.GivenLemmas.{recoverable_wants}
use Rattle.cn_words.proofs.without_certificate.recoverable_plan.Goals as goal

pub returns-then-asks_for_shortest : goal.returns-then-asks_for_shortest
returns-then-asks_for_shortest c = λ invocation is.
    let w = recoverable_wants (rows_in c.args.words.now) invocation c.requires is in
    let bad : true ≡ false = sym c.if-asks_for_shortest.true ∙ (c.asks_for_shortest.ensures ∙ w.0) in cc

pub returns-then-is_of_program : goal.returns-then-is_of_program
returns-then-is_of_program c = λ invocation is.
    let w = recoverable_wants (rows_in c.args.words.now) invocation c.requires is in
    let bad : true ≡ false = sym c.if-is_of_program.true ∙ (c.is_of_program.ensures ∙ w.1) in cc

pub returns-in_err-table : goal.returns-in_err-table
returns-in_err-table c = rw c.from_residual.ensures (λ invocation is.
    let w = recoverable_wants (rows_in c.args.words.now) invocation c.requires is in
    c.in_err-table.ensures w.2.0 w.2.1)

pub returns-in_err-processes : goal.returns-in_err-processes
returns-in_err-processes c = rw c.from_residual-in_err-processes.ensures (λ invocation is.
    let w = recoverable_wants (rows_in c.args.words.now) invocation c.requires is in
    c.in_err-processes.ensures w.3.0 w.3.1)

pub returns-in_err-form : goal.returns-in_err-form
returns-in_err-form c = rw c.from_residual-in_err-form.ensures (λ invocation is.
    let w = recoverable_wants (rows_in c.args.words.now) invocation c.requires is in
    c.in_err-form.ensures w.4.0 w.4.1)

pub returns : goal.returns
returns c = (refl, c.requires, sym c.asks_for_shortest.ensures ∙ c.if-asks_for_shortest.false, sym c.is_of_program.ensures ∙ c.if-is_of_program.false, c.in_ok-table.ensures, c.in_ok-processes.ensures, c.in_ok-form.ensures)
