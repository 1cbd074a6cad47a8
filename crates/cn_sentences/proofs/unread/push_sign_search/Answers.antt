use Rattle.std.proofs.Common.{append-nil, append_assoc}
use Rattle.cn_pieces.proofs.Ends.{as_wanted}
use Rattle.cn_sentences.specs.Unread.{sign_search}
use Rattle.cn_sentences.proofs.unread.push_sign_search.Goals as goal

pub returns : goal.returns
unfolding sign_search
returns c =
    as_wanted _ _ _ _ c.push_pieces.ensures (rw (c.in_ok-push_search_line.ensures, c.other_team-other.ensures) (simp (append_assoc, append-nil)))
