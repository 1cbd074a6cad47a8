use Rattle.std.proofs.Common.{refl}
use Rattle.cn_pieces.proofs.Ends.{as_wanted}
use Rattle.cn_text.proofs.explanation.push_rule.Goals as goal

pub returns-in-Some : goal.returns-in-Some
returns-in-Some c = as_wanted _ _ _ _ c.push_pieces.ensures (rw (c.in-Some.is, c.rule_words.ensures) refl)
