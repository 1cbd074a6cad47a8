use Rattle.cn_unread.proofs.Play.{unread_from_defended, defended_is_unread_witness}
use Rattle.cn_unread.proofs.Play.{discerning_from_unread, witness_from_unread}
use Rattle.cn_unread.proofs.laws.defended_choices_are_witnesses.Goals as goal

pub returns : goal.returns
returns c = record {
  unread = λ t n c is d. defended_is_unread_witness t c n is d;
  witness = witness_from_unread;
  numbers = λ t n d. (let b = unread_from_defended t n d in (b, discerning_from_unread t n b));
}
