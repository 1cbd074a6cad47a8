use Rattle.std.proofs.Common.{None, Some, lit<, refl}
use Rattle.std.proofs.lemmas.Result.{err_from_is_err_and}
use Rattle.std.proofs.lemmas.Str.Pattern.{strip_prefix_char}
use Rattle.cnum.proofs.given_list.given_list.Goals as goal

pub returns-in_err-read_argument-in-Some : goal.returns-in_err-read_argument-in-Some
returns-in_err-read_argument-in-Some g c =
    let p = err_from_is_err_and c.from_residual.result c.from_residual.ensures.1 in
    rw (p.1, p.2) (
      c.in-Some.path.now,
      strip_prefix_char 64 c.args.word.now (Some c.in-Some.path) c.in-Some.ensures.cases (lit< tt),
      record {
        before = c.file_text-text.result;
        after = c.read_argument.new.text;
        opened = c.file_text-text.ensures;
        read = c.read_argument.ensures.read;
        gives = c.in_err-read_argument-in-Some.ensures.text;
      },
    )

pub returns-in_ok-read_argument-in-Some : goal.returns-in_ok-read_argument-in-Some
returns-in_ok-read_argument-in-Some g c = (
  c.in-Some.path.now,
  strip_prefix_char 64 c.args.word.now (Some c.in-Some.path) c.in-Some.ensures.cases (lit< tt),
  record {
    before = c.file_text-text.result;
    after = c.read_argument.new.text;
    opened = c.file_text-text.ensures;
    read = c.read_argument.ensures.read;
    gives = c.in_ok-read_argument-in-Some.ensures.text;
  },
)

-- the word has no @ at its front
pub returns-in-None : goal.returns-in-None
returns-in-None g c = (refl, λ path file. strip_prefix_char 64 c.args.word.now None c.in-None.ensures.cases (lit< tt) path file)
