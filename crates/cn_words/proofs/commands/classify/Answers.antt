use Rattle.std.proofs.Common.{◌≡◌, ◌∙◌, codes, false, refl, sym, true}
use Rattle.clap.specs.Matches.{found_of}
use Rattle.cn_words.specs.GivenCommands.{rows_in}
use Rattle.cn_words.proofs.GivenLemmas.{classify_wants, flag_read}
use Rattle.cn_words.proofs.commands.classify.Goals as goal

pub returns-then-is_limit_excluded : goal.returns-then-is_limit_excluded
returns-then-is_limit_excluded c = λ invocation is.
    let w = classify_wants (rows_in c.args.words.now) invocation is in
    let excluded : true ≡ false = sym c.if-is_limit_excluded.true ∙ c.is_limit_excluded.ensures ∙ w.0 in cc

pub returns-in_default : goal.returns-in_default
returns-in_default c = λ invocation is.
    let w = classify_wants (rows_in c.args.words.now) invocation is in
    (rw c.in_default.is at c.optional_limit.ensures) w.1.0 w.1.1

pub returns-in_default-document_form : goal.returns-in_default-document_form
returns-in_default-document_form c = λ invocation is.
    let w = classify_wants (rows_in c.args.words.now) invocation is in
    (rw c.in_default-document_form.is at c.document_form.ensures) w.2.0 w.2.1

pub returns-in_default-2 : goal.returns-in_default-2
returns-in_default-2 c = λ invocation is.
    let w = classify_wants (rows_in c.args.words.now) invocation is in
    (rw c.in_default-2.is at c.in_ok-tables.ensures) w.3.0 w.3.1

pub returns : goal.returns
returns c = (
  refl,
  sym c.is_limit_excluded.ensures ∙ c.if-is_limit_excluded.false,
  rw c.in-Some.is at c.optional_limit.ensures,
  flag_read (found_of c.args.words.now) (codes "recoverable") c.get_flag.result c.get_flag.ensures.none c.get_flag.ensures.value c.get_flag.ensures.other,
  flag_read (found_of c.args.words.now) (codes "without-read") c.get_flag-2.result c.get_flag-2.ensures.none c.get_flag-2.ensures.value c.get_flag-2.ensures.other,
  rw c.in-Some-document_form.is at c.document_form.ensures,
  rw c.in-Some-2.is at c.in_ok-tables.ensures,
)
