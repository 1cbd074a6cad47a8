-- The protocols of Races fail: the run that is computed contradicts agreement, or validity.
use Rattle.std.proofs.Common.{◌≡◌, ◌<◌, ℕ, true, false, refl, arith}
use Rattle.cn_table.specs.TypeTable.{TypeTable}
use Rattle.cn_consensus.specs.Consensus.{IsConsensusProtocol, IsSchedule}
use Rattle.cn_consensus.specs.Types.{all_of}
use Rattle.cn_crashes.specs.Execution.{IsExecution}
use Rattle.cn_crashes.specs.RecoverableConsensus.{HasRecoverableAgreement}
use Rattle.cn_crashes.specs.RecoverableConsensus.{IsRecoverableConsensusProtocol}
use Rattle.cn_runs.specs.Races.{all_false, always_true, answer, both_decide, both_write}
use Rattle.cn_runs.specs.Races.{comes_back, first_answer, one_false, own_input, race}
use Rattle.cn_runs.specs.Races.{second_answer, wrong_register}
use Rattle.cn_runs.specs.TestAndSet.{plan}
use Rattle.std.specs.Prelude.{[]}

zero_is_first : 0 < 2
zero_is_first = omega arith

one_is_second : 1 < 2
one_is_second = omega arith

values_differ : false ≡ true → ⊥
values_differ e = absurd (cc e)

both_write_is : IsSchedule 2 both_write
both_write_is = (zero_is_first, (one_is_second, tt))

pub own_fails : (t : ℕ → TypeTable) → IsConsensusProtocol t 2 own_input → ⊥
own_fails t h = values_differ
    (h.agreement one_false both_write both_write_is 0 1 false true zero_is_first one_is_second
    refl refl)

pub true_fails : (t : ℕ → TypeTable) → IsConsensusProtocol t 2 always_true → ⊥
true_fails t h =
    values_differ (h.validity all_false [] tt 0 true zero_is_first refl).2

wrong_register_is : IsSchedule 3 wrong_register
wrong_register_is =
    (omega arith, (omega arith, (omega arith, (omega arith, (omega arith, (omega arith, tt))))))

pub three_fail : IsConsensusProtocol (all_of plan.table) 3 race → ⊥
three_fail h = values_differ
    (h.agreement one_false wrong_register wrong_register_is 2 1 false true (omega arith)
    (omega arith) refl refl)

both_decide_is : IsExecution 2 both_decide
both_decide_is =
    (zero_is_first, (zero_is_first, (one_is_second, (one_is_second, (one_is_second, tt)))))

comes_back_is : IsExecution 2 comes_back
comes_back_is = (zero_is_first, (zero_is_first, (zero_is_first, (zero_is_first, tt))))

pub crashes_fail : IsRecoverableConsensusProtocol (all_of plan.table) 2 race → ⊥
crashes_fail h = values_differ
    (h.agreement one_false both_decide comes_back both_decide_is comes_back_is 1 0 false true
    one_is_second zero_is_first refl refl)

pub answers_fail : HasRecoverableAgreement (all_of plan.table) 2 answer → ⊥
answers_fail agreement = values_differ
    (agreement one_false first_answer second_answer (zero_is_first, tt)
    (zero_is_first, (zero_is_first, tt)) 0 0 false true zero_is_first zero_is_first refl refl)
