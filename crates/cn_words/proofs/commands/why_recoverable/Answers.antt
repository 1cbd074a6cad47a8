use Rattle.std.proofs.Common.{Bool, codes, refl, subst}
use Rattle.clap.specs.Matches.{found_of}
use Rattle.cn_words.specs.GivenCommands.{is_flag_set, rows_in}
use Rattle.cn_words.proofs.GivenLemmas.{WantsWhy, flag_read, no_word, wants}
use Rattle.cn_words.proofs.commands.why_recoverable.Goals as goal

pub returns-in_err-form : goal.returns-in_err-form
returns-in_err-form c = rw c.from_residual.ensures (λ command is.
    let rows = rows_in c.args.words.now in
    let w = subst (λ (k : Bool). WantsWhy rows k (is_flag_set (codes "without-read") rows) (is_flag_set (codes "recoverable") rows)) c.requires.choices
    (wants (codes "why") rows command is) in
    c.in_err-form.ensures w.1.0 w.1.1)

pub returns : goal.returns
returns c = (
  refl,
  (
    c.requires.recoverable,
    c.requires.with_reads,
    no_word c.word.result _ c.is_some.result c.word.ensures c.is_some.ensures c.if-is_some.false,
    flag_read (found_of c.args.words.now) (codes "all") c.get_flag-all.result c.get_flag-all.ensures.none c.get_flag-all.ensures.value c.get_flag-all.ensures.other,
    c.in_ok-form.ensures,
    c.requires.choices,
  ),
)
