use Rattle.std.proofs.Common.{append-nil, append_assoc}
use Rattle.cn_pieces.proofs.Ends.{as_wanted}
use Rattle.cn_markdown.proofs.recoverable.push_start_place.Goals as goal

pub returns : goal.returns
returns c = rw (c.in-Some.is, ← c.name-other.ensures) (as_wanted _ _ _ _ c.push_reader.ensures (rw c.in_ok-push_pieces.ensures (simp (append_assoc, append-nil))))
