use Rattle.std.proofs.Common.{append_assoc}
use Rattle.std.proofs.lemmas.Grind.{flat_map-append}
use Rattle.cn_pieces.proofs.Ends.{as_wanted}
use Rattle.cn_markdown.proofs.numbers.push_others.Goals as goal

pub returns : goal.returns
returns c = as_wanted _ _ _ _ c.push_told-2.ensures (rw c.in_ok-push_told.ensures (simp (append_assoc, flat_map-append)))
