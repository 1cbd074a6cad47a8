use Rattle.std.proofs.Common.{refl}
use Rattle.cn_pieces.proofs.Ends.{as_wanted}
use Rattle.cn_text.specs.Reasons.{number_line}
use Rattle.cn_text.proofs.reasons.push_number_line.Goals as goal

pub returns : goal.returns
unfolding number_line
returns c = as_wanted _ _ _ _ c.push_pieces.ensures (rw (c.name-name.ensures.value, c.kind_words-told.ensures, c.readers-can.ensures) refl)
