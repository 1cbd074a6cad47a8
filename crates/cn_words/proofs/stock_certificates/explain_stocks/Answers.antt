use Rattle.std.proofs.Common.{codes, refl, subst}
use Rattle.clap.specs.Matches.{found_of}
use Rattle.cn_form.specs.declared.answer_form.AnswerForm.TheVariants as answer
use Rattle.cn_words.specs.GivenCommands.{HasAnswerForm, rows_in}
use Rattle.cn_words.proofs.GivenLemmas.{WantsExplain, flag_read, wants}
use Rattle.cn_words.proofs.stock_certificates.explain_stocks.Goals as goal

pub returns-in_err-certificate : goal.returns-in_err-certificate
returns-in_err-certificate c = rw c.from_residual.ensures (λ command is.
    let w = wants (codes "explain") (rows_in c.args.words.now) command is in c.in_err-certificate.ensures w.0.0 w.0.1)

pub returns-in_err-answer_form : goal.returns-in_err-answer_form
returns-in_err-answer_form c = rw c.from_residual-in_err-answer_form.ensures (λ command is.
    let rows = rows_in c.args.words.now in
    c.in_err-answer_form.ensures answer.Text (subst (WantsExplain rows) c.requires (wants (codes "explain") rows command is).1))

pub returns-in-Text : goal.returns-in-Text
returns-in-Text c = (
  refl,
  (
    c.in_ok-certificate.ensures,
    flag_read (found_of c.args.words.now) (codes "all") c.get_flag-all.result c.get_flag-all.ensures.none c.get_flag-all.ensures.value c.get_flag-all.ensures.other,
    subst (HasAnswerForm (rows_in c.args.words.now)) c.in-Text.is c.in_ok-answer_form.ensures,
    c.requires,
  ),
)
