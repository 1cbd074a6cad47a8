use Rattle.std.proofs.Common.{◌∙◌, codes, refl, sym}
use Rattle.clap.specs.Matches.{found_of}
use Rattle.cn_words.specs.GivenCommands.{rows_in}
use Rattle.cn_words.proofs.GivenLemmas.{flag_read, wants}
use Rattle.cn_words.proofs.commands.agree.Goals as goal

pub returns-in_err-certificate : goal.returns-in_err-certificate
returns-in_err-certificate c = rw c.from_residual.ensures (λ command is.
    let w = wants (codes "agree") (rows_in c.args.words.now) command is in c.in_err-certificate.ensures w.0.0 w.0.1)

pub returns-in_err-list : goal.returns-in_err-list
returns-in_err-list c = rw c.from_residual-in_err-list.ensures (λ command is.
    let w = wants (codes "agree") (rows_in c.args.words.now) command is in c.in_err-list.ensures w.1.0 w.1.1)

pub returns-in_err-list-2 : goal.returns-in_err-list-2
returns-in_err-list-2 c = rw c.from_residual-in_err-list-2.ensures (λ command is.
    let w = wants (codes "agree") (rows_in c.args.words.now) command is in c.in_err-list-2.ensures w.2.0 w.2.1)

pub returns-in_err-answer_form : goal.returns-in_err-answer_form
returns-in_err-answer_form c = rw c.from_residual-in_err-answer_form.ensures (λ command is.
    let w = wants (codes "agree") (rows_in c.args.words.now) command is in c.in_err-answer_form.ensures w.3.0 w.3.1)

pub returns : goal.returns
returns c = (
  refl,
  (
    c.in_ok-certificate.ensures,
    c.in_ok-list.ensures,
    c.in_ok-list-2.ensures,
    flag_read (found_of c.args.words.now) (codes "steps") c.get_flag.result c.get_flag.ensures.none c.get_flag.ensures.value c.get_flag.ensures.other,
    c.in_ok-answer_form.ensures,
    sym c.excludes_certificate.ensures ∙ c.if-excludes_certificate.false,
  ),
)
