use Rattle.std.proofs.Common.{◌∙◌, Bool, codes, refl, subst, sym}
use Rattle.clap.specs.Matches.{found_of}
use Rattle.cn_form.specs.declared.answer_form.DocumentForm.TheVariants as document
use Rattle.cn_words.specs.GivenCommands.{HasDocumentForm, is_flag_set, rows_in}
use Rattle.cn_words.proofs.GivenLemmas.{WantsWhy, flag_read, wants}
use Rattle.cn_words.proofs.stock_certificates.why_stocks.Goals as goal

pub returns-in_err-limit : goal.returns-in_err-limit
returns-in_err-limit c = rw c.from_residual.ensures (λ command is.
    let rows = rows_in c.args.words.now in
    let w = subst (λ (k : Bool). WantsWhy rows k (is_flag_set (codes "without-read") rows) (is_flag_set (codes "recoverable") rows)) c.requires
    (wants (codes "why") rows command is) in
    c.in_err-limit.ensures w.2.0 w.2.1)

pub returns-in_err-document_form : goal.returns-in_err-document_form
returns-in_err-document_form c = rw c.from_residual-in_err-document_form.ensures (λ command is.
    let rows = rows_in c.args.words.now in
    let w = subst (λ (k : Bool). WantsWhy rows k (is_flag_set (codes "without-read") rows) (is_flag_set (codes "recoverable") rows)) c.requires
    (wants (codes "why") rows command is) in
    c.in_err-document_form.ensures document.Text w.3)

pub returns-in-Text : goal.returns-in-Text
returns-in-Text c = (
  refl,
  (
    c.in_ok-limit.ensures,
    flag_read (found_of c.args.words.now) (codes "all") c.get_flag-all.result c.get_flag-all.ensures.none c.get_flag-all.ensures.value c.get_flag-all.ensures.other,
    subst (HasDocumentForm (rows_in c.args.words.now)) c.in-Text.is c.in_ok-document_form.ensures,
    sym c.is_flag_set.ensures ∙ c.if-is_flag_set.false,
    sym c.is_unread.ensures ∙ c.if-is_unread.false,
    c.requires,
  ),
)
