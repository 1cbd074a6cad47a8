use Rattle.cn_number_laws.proofs.CrashFreeRuns.{every_run_ends, is_consensus}
use Rattle.cn_number_laws.proofs.laws.recoverable_consensus_is_consensus.Goals as goal

pub returns : goal.returns
returns g c = record {
  wait_freedom = λ t n P w. (c.bound_is_wait_freedom.ensures.ends t n P).0 (every_run_ends t n P w);
  consensus = λ t n P r. is_consensus t n P (c.bound_is_wait_freedom.ensures.ends t n P).0 r;
}
