use Rattle.cn_unread.proofs.QueueReads.{queue_discerning}
use Rattle.cn_unread.proofs.QueueTrap.{queue_closed, queue_undefended}
use Rattle.cn_unread.proofs.QueueViews.{queue_views}
use Rattle.cn_unread.proofs.laws.queue_of_one.Goals as goal

pub returns : goal.returns
returns c = record {
  closed = queue_closed;
  views = queue_views;
  undefended = queue_undefended;
  discerning = queue_discerning;
}
