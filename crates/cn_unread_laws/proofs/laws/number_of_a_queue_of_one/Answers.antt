use Rattle.std.proofs.Common.{arith}
use Rattle.cn_unread.specs.Examples.{queue_1}
use Rattle.cn_unread_laws.proofs.UnreadNumbers.{number_by_next}
use Rattle.cn_unread_laws.proofs.laws.number_of_a_queue_of_one.Goals as goal

pub returns : goal.returns
returns g c = record {
  without_reads = number_by_next c.views_are_enough.ensures queue_1 2 c.queue_of_one.ensures.closed
      (omega arith) c.queue_of_one.ensures.views c.queue_of_one.ensures.undefended;
  with_reads = λ n two. c.witness_is_enough.ensures queue_1 n two
      (c.queue_of_one.ensures.discerning n two);
}
