use Rattle.std.proofs.Common.{append-nil, append_assoc}
use Rattle.cn_pieces.proofs.Ends.{as_wanted}
use Rattle.cn_markdown.specs.Unread.{witness_table}
use Rattle.cn_markdown.proofs.unread.push_witness_table.Goals as goal

pub returns : goal.returns
unfolding witness_table
returns c = as_wanted _ _ _ _ c.push_views_told.ensures (rw (c.in_ok-push_witness_start.ensures, c.as_slice.ensures.value) (simp (append_assoc, append-nil)))
