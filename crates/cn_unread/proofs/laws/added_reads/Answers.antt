use Rattle.cn_unread.proofs.AddedReads.{adds_read, closed_too, discerning_down, discerning_up, views_up}
use Rattle.cn_unread.proofs.laws.added_reads.Goals as goal

pub returns : goal.returns
returns c = record {
  adds = adds_read;
  closed = closed_too;
  discerning = λ t u n closed adds. (
    discerning_up t u closed adds n,
    discerning_down t u closed adds c.witnesses_are_live.ensures n,
  );
  views = λ t u n closed adds. views_up t u closed adds n;
}
