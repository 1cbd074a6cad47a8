use Rattle.std.proofs.Common.{append-nil, append_assoc}
use Rattle.cn_pieces.proofs.Ends.{as_wanted}
use Rattle.cn_markdown.specs.Unread.{views_table}
use Rattle.cn_markdown.proofs.unread.push_views_table.Goals as goal

pub returns : goal.returns
unfolding views_table
returns c = as_wanted _ _ _ _ c.push_views.ensures (rw (c.in_ok-push_name_rule.ensures, c.in_ok-push_pieces.ensures) (simp (append_assoc, append-nil)))
