use Rattle.std.proofs.Common.{refl}
use Rattle.cn_words.specs.GivenCommands.{rows_in}
use Rattle.cn_words.proofs.GivenLemmas.{run_wants}
use Rattle.cn_words.proofs.commands.shortest_run.Goals as goal

pub returns-in_err-run_table : goal.returns-in_err-run_table
returns-in_err-run_table c = rw c.from_residual.ensures (λ invocation is.
    let w = run_wants (rows_in c.args.words.now) invocation c.requires.shortest is in
    c.in_err-run_table.ensures w.0.0 w.0.1)

pub returns-in_err-run_words : goal.returns-in_err-run_words
returns-in_err-run_words c = rw c.from_residual-in_err-run_words.ensures (λ invocation is.
    let w = run_wants (rows_in c.args.words.now) invocation c.requires.shortest is in
    c.in_err-run_words.ensures w.1.0 w.1.1)

pub returns : goal.returns
returns c = (refl, c.requires.shortest, c.requires.lasting, c.is_flag_set.ensures, c.in_ok-run_table.ensures, c.in_ok-run_words.ensures)
