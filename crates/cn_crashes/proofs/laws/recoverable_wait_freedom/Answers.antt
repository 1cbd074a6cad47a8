use Rattle.cn_crashes.proofs.Bounds.{endless}
use Rattle.cn_crashes.proofs.CrashFreeExecutions.{is_consensus}
use Rattle.cn_crashes.proofs.InfiniteExecutions.{decides_in_each, wait_free_classically}
use Rattle.cn_crashes.proofs.laws.recoverable_wait_freedom.Goals as goal

pub returns : goal.returns
returns g c = record {
  infinite = decides_in_each;
  classical = wait_free_classically;
  bound = endless;
  consensus = is_consensus;
}
