use Rattle.std.proofs.Common.{IsTrue}
use Rattle.cn_unread.proofs.Traps.{not_defended, trapped}
use Rattle.cn_unread.proofs.laws.traps_refute.Goals as goal

pub returns : goal.returns
returns c = record {
  position = λ t n H trap k x h. trapped t n (λ y. IsTrue (H y)) trap k x h;
  all = λ t n H trap all. not_defended t n (λ y. IsTrue (H y)) trap all;
}
