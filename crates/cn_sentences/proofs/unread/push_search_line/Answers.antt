use Rattle.std.proofs.Common.{append-nil, append_assoc}
use Rattle.cn_pieces.proofs.Ends.{as_wanted}
use Rattle.cn_sentences.specs.Unread.{search_line}
use Rattle.cn_sentences.proofs.unread.push_search_line.Goals as goal

pub returns : goal.returns
unfolding search_line
returns c =
    as_wanted _ _ _ _ c.push_pieces-3.ensures
    (rw (c.in_ok-push_answers.ensures, c.in_ok-push_pieces-2.ensures, c.in_ok-push_operations.ensures, c.in_ok-push_pieces.ensures, c.name-side.ensures, c.as_slice.ensures.value, c.as_slice-2.ensures.value)
    (simp (append_assoc, append-nil)))
