use Rattle.std.proofs.Common.{◌∙◌, None, lit<, sym}
use Rattle.std.proofs.lemmas.Str.Pattern.{strip_prefix_char}
use Rattle.cn_io.proofs.ArgumentLemmas.Events.{no_event}
use Rattle.cn_io.proofs.arguments.events.EventWordItem.read.Goals as goal

pub returns-in_err-strip_prefix-in-None : goal.returns-in_err-strip_prefix-in-None
returns-in_err-strip_prefix-in-None c =
    let text = c.args.text.now in
    c.from_residual-in_err-strip_prefix-in-None.ensures
    ∙ sym (no_event text (strip_prefix_char 115 text None c.in-None.ensures.cases (lit< tt)) (strip_prefix_char 105 text None c.in_err-strip_prefix-in-None.ensures.cases (lit< tt)))
