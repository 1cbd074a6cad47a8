use Rattle.std.proofs.Common.{append-nil, append_assoc}
use Rattle.cn_pieces.proofs.Ends.{as_wanted}
use Rattle.cn_sentences.specs.Shortest.{shortest_line}
use Rattle.cn_sentences.proofs.shortest.push_shortest.Goals as goal

pub returns : goal.returns
unfolding shortest_line
returns c =
    as_wanted _ _ _ _ c.push_pieces.ensures
    (rw (c.in_ok-push_objects.ensures, c.in_ok-write.ensures.bytes) (simp (append_assoc, append-nil)))
