use Rattle.std.proofs.Common.{◌∙◌, codes, refl, subst, sym}
use Rattle.clap.specs.Matches.{found_of}
use Rattle.cn_words.specs.GivenCommands.{rows_in}
use Rattle.cn_words.proofs.GivenLemmas.{WantsExplain, flag_read, wants}
use Rattle.cn_words.proofs.commands.explain.Goals as goal

pub returns-in_err-certificate : goal.returns-in_err-certificate
returns-in_err-certificate c = rw c.from_residual.ensures (λ command is.
    let w = wants (codes "explain") (rows_in c.args.words.now) command is in c.in_err-certificate.ensures w.0.0 w.0.1)

pub returns-in_err-answer_form : goal.returns-in_err-answer_form
returns-in_err-answer_form c = rw c.from_residual-in_err-answer_form.ensures (λ command is.
    let rows = rows_in c.args.words.now in
    let w = subst (WantsExplain rows) (sym c.is_by_stocks.ensures ∙ c.if-is_by_stocks.false) (wants (codes "explain") rows command is).1 in
    c.in_err-answer_form.ensures w.0 w.1)

pub returns : goal.returns
returns c = (
  refl,
  (
    c.in_ok-certificate.ensures,
    flag_read (found_of c.args.words.now) (codes "all") c.get_flag.result c.get_flag.ensures.none c.get_flag.ensures.value c.get_flag.ensures.other,
    c.in_ok-answer_form.ensures,
    sym c.is_by_stocks.ensures ∙ c.if-is_by_stocks.false,
  ),
)
