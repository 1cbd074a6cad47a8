use Rattle.std.proofs.Common.{◌∙◌, Bool, codes, false, refl, subst, sym}
use Rattle.clap.specs.Matches.{found_of}
use Rattle.cn_words.specs.GivenCommands.{is_flag_set, rows_in}
use Rattle.cn_words.proofs.GivenLemmas.{WantsWhy, flag_read, limits, wants}
use Rattle.cn_words.proofs.commands.why.Goals as goal

pub returns-in_err-limit : goal.returns-in_err-limit
returns-in_err-limit c = rw c.from_residual.ensures (λ command is.
    let rows = rows_in c.args.words.now in
    let asked = subst (λ (k : Bool). WantsWhy rows k (is_flag_set (codes "without-read") rows) (is_flag_set (codes "recoverable") rows))
    (sym c.is_by_stocks.ensures ∙ c.if-is_by_stocks.false) (wants (codes "why") rows command is) in
    let w = limits rows false false _ _ (sym c.if-is_unread.false ∙ c.is_unread.ensures) (sym c.if-is_flag_set.false ∙ c.is_flag_set.ensures) asked.0 in
    c.in_err-limit.ensures w.0 w.1)

pub returns-in_err-form : goal.returns-in_err-form
returns-in_err-form c = rw c.from_residual-in_err-form.ensures (λ command is.
    let rows = rows_in c.args.words.now in
    let w = subst (λ (k : Bool). WantsWhy rows k (is_flag_set (codes "without-read") rows) (is_flag_set (codes "recoverable") rows))
    (sym c.is_by_stocks.ensures ∙ c.if-is_by_stocks.false) (wants (codes "why") rows command is) in
    c.in_err-form.ensures w.1.0 w.1.1)

pub returns : goal.returns
returns c = (
  refl,
  (
    c.in_ok-limit.ensures,
    flag_read (found_of c.args.words.now) (codes "all") c.get_flag-all.result c.get_flag-all.ensures.none c.get_flag-all.ensures.value c.get_flag-all.ensures.other,
    c.in_ok-form.ensures,
    sym c.is_flag_set.ensures ∙ c.if-is_flag_set.false,
    sym c.is_unread.ensures ∙ c.if-is_unread.false,
    sym c.is_by_stocks.ensures ∙ c.if-is_by_stocks.false,
  ),
)
