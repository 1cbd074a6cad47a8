use Rattle.std.proofs.Common.{refl, sym, ◌∙◌}
use Rattle.cn_io.proofs.ArgumentLemmas.Numbers.{parsed}
use Rattle.cn_io.proofs.arguments.lists.read_number.Goals as goal

pub returns : goal.returns
returns c = c.ok.ensures.value ∙ parsed 64 18446744073709551615 c.args.text.now c.parse.result refl c.parse.ensures.value.0 (sym c.if-not-has_digits_only.ensures) c.if-text-gt-MOST_DIGITS.false
