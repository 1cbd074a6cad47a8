use Rattle.cn_consensus.proofs.WellFoundedRuns.{bounded, ended}
use Rattle.cn_consensus.proofs.InfiniteSchedules.{bound_from_wait_freedom, wait_free}
use Rattle.cn_consensus.proofs.laws.bound_is_wait_freedom.Goals as goal

pub returns : goal.returns
returns g c = record {
  ends = λ t n P. (bounded t n P, ended t n P);
  infinite = wait_free;
  classical = bound_from_wait_freedom;
}
