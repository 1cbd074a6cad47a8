use Rattle.std.proofs.Common.{◌∙◌, Bool, codes, refl, subst, sym}
use Rattle.cn_words.specs.GivenCommands.{is_flag_set, rows_in}
use Rattle.cn_words.proofs.GivenLemmas.{WantsChoices, WantsFind, no_word, wants}
use Rattle.cn_words.proofs.plan_certificates.find_shortest.Goals as goal

pub returns-in_err-processes : goal.returns-in_err-processes
returns-in_err-processes c = rw c.from_residual.ensures (λ command is.
    let rows = rows_in c.args.words.now in
    let unread = is_flag_set (codes "without-read") rows in
    let choices = subst (λ (k : Bool). WantsFind rows k (is_flag_set (codes "shortest") rows) unread) c.requires.choices (wants (codes "find") rows command is) in
    let w = subst (λ (s : Bool). WantsChoices rows s unread) c.requires.shortest choices in
    c.in_err-processes.ensures w.2.0 w.2.1)

pub returns : goal.returns
returns c = (
  refl,
  (
    c.requires.shortest,
    sym c.is_unread.ensures ∙ c.if-is_unread.false,
    no_word c.word.result _ c.is_some.result c.word.ensures c.is_some.ensures c.if-is_some.false,
    c.in_ok-processes.ensures,
    c.requires.choices,
  ),
)
