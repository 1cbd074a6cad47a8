use Rattle.std.proofs.Common.{refl}
use Rattle.cn_pieces.proofs.Ends.{as_wanted}
use Rattle.cn_sentences.specs.Changes.{response_words}
use Rattle.cn_sentences.proofs.changes.push_response.Goals as goal

pub returns : goal.returns
unfolding response_words
returns c = as_wanted _ _ _ _ c.push_pieces.ensures (rw c.response_name.ensures refl)
