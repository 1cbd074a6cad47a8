use Rattle.std.proofs.Common.{◌≡◌, ◌∙◌, codes, false, refl, sym, true}
use Rattle.cn_words.specs.GivenCommands.{rows_in}
use Rattle.cn_words.proofs.GivenLemmas.{wants}
use Rattle.cn_words.proofs.commands.changes.Goals as goal

pub returns-then-is_number_twofold : goal.returns-then-is_number_twofold
returns-then-is_number_twofold c = λ command is.
    let w = wants (codes "changes") (rows_in c.args.words.now) command is in
    let twofold : true ≡ false = sym c.if-is_number_twofold.true ∙ c.is_number_twofold.ensures ∙ w.1 in cc

pub returns-in_err-form : goal.returns-in_err-form
returns-in_err-form c = rw c.from_residual.ensures (λ command is.
    let w = wants (codes "changes") (rows_in c.args.words.now) command is in c.in_err-form.ensures w.0.0 w.0.1)

pub returns : goal.returns
returns c = (
  refl,
  (
    c.is_flag_set.ensures,
    c.is_unread.ensures,
    c.is_flag_set-2.ensures,
    c.in_ok-form.ensures,
    sym c.is_number_twofold.ensures ∙ c.if-is_number_twofold.false,
  ),
)
