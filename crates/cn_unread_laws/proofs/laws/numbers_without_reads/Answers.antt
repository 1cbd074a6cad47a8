use Rattle.cn_unread_laws.proofs.UnreadNumbers.{merged_one, number_by_defence}
use Rattle.cn_unread_laws.proofs.UnreadNumbers.{number_by_merging, number_by_next, number_one}
use Rattle.cn_unread_laws.proofs.laws.numbers_without_reads.Goals as goal

pub returns : goal.returns
returns g c = record {
  defended = number_by_defence c.views_are_enough.ensures;
  next = number_by_next c.views_are_enough.ensures;
  merged = number_by_merging c.views_are_enough.ensures;
  one = number_one;
  merged_one = merged_one;
}
