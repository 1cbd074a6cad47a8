use Rattle.std.proofs.Common.{append_assoc}
use Rattle.cn_pieces.proofs.Ends.{as_wanted}
use Rattle.cn_sentences.specs.Smallest.{sentence}
use Rattle.cn_sentences.proofs.smallest.push_sentence.Goals as goal

pub returns : goal.returns
unfolding sentence
returns c = as_wanted _ _ _ _ c.push_pieces-2.ensures (rw (c.in_ok-push_needed.ensures, c.in_ok-push_pieces.ensures) (simp append_assoc))
