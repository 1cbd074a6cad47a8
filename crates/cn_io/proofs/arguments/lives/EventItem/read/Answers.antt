use Rattle.std.proofs.Common.{◌∙◌, None, lit<, sym}
use Rattle.std.proofs.lemmas.Str.Pattern.{strip_prefix_char}
use Rattle.cn_io.proofs.ArgumentLemmas.Lives.{no_life_event}
use Rattle.cn_io.proofs.arguments.lives.EventItem.read.Goals as goal

pub returns-in_err-read-in-None : goal.returns-in_err-read-in-None
returns-in_err-read-in-None c =
    let text = c.args.text.now in
    c.from_residual-in_err-read-in-None.ensures
    ∙ sym (no_life_event text (strip_prefix_char 99 text None c.in-None.ensures.cases (lit< tt)) (sym c.in_err-read-in-None.ensures))
