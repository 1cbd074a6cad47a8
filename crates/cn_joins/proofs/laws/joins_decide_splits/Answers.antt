use Rattle.cn_joins.proofs.Joined.{connecting}
use Rattle.cn_joins.proofs.Soundness.{no_split}
use Rattle.cn_joins.proofs.laws.joins_decide_splits.Goals as goal

pub returns : goal.returns
returns c = record {
  connected = λ t start stock joins are connect. no_split t start stock joins are connect;
  joined = λ t start stock start_known known none. connecting t start stock start_known known none;
}
