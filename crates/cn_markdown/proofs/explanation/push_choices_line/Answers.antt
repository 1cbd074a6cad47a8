use Rattle.std.proofs.Common.{append-nil, append_assoc}
use Rattle.cn_pieces.proofs.Ends.{as_wanted}
use Rattle.cn_markdown.specs.Explanation.{choices_line}
use Rattle.cn_markdown.proofs.explanation.push_choices_line.Goals as goal

pub returns : goal.returns
unfolding choices_line
returns c = as_wanted _ _ _ _ c.push_choices_words.ensures (rw c.in_ok-write.ensures.bytes (simp (append_assoc, append-nil)))
