use Rattle.std.proofs.Common.{◌≡◌, ◌∙◌, false, refl, sym, true}
use Rattle.cn_words.specs.GivenCommands.{rows_in}
use Rattle.cn_words.proofs.GivenLemmas.{lives_wants}
use Rattle.cn_words.proofs.commands.lives_run.Goals as goal

pub returns-then-asks_for_shortest : goal.returns-then-asks_for_shortest
returns-then-asks_for_shortest c = λ invocation is.
    let w = lives_wants (rows_in c.args.words.now) invocation c.requires is in
    let bad : true ≡ false = sym c.if-asks_for_shortest.true ∙ (c.asks_for_shortest.ensures ∙ w.0) in cc

pub returns-in_err-run_table : goal.returns-in_err-run_table
returns-in_err-run_table c = rw c.from_residual.ensures (λ invocation is.
    let w = lives_wants (rows_in c.args.words.now) invocation c.requires is in
    c.in_err-run_table.ensures w.1.0 w.1.1)

pub returns-in_err-run_words : goal.returns-in_err-run_words
returns-in_err-run_words c = rw c.from_residual-in_err-run_words.ensures (λ invocation is.
    let w = lives_wants (rows_in c.args.words.now) invocation c.requires is in
    c.in_err-run_words.ensures w.2.0 w.2.1)

pub returns : goal.returns
returns c = (refl, c.requires, sym c.asks_for_shortest.ensures ∙ c.if-asks_for_shortest.false, c.in_ok-run_table.ensures, c.in_ok-run_words.ensures)
