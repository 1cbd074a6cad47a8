-- The round of consensus in each slot, as a log sees it.
use Rattle.std.specs.Prelude.{ℕ, Option}
use Rattle.cn_proto.specs.Protocol.{ProtocolOfRounds}
use Rattle.cn_agree.specs.World.{World as RoundWorld, input_at, local_at}
use Rattle.cn_agree.specs.Steps.{after_begin, after_step}
use Rattle.cn_agree.specs.Rounds.{decision_at, fixed_value, steps_taken}
use Rattle.cn_log.specs.declared.batch.Batch.{Batch}

-- consensus on a batch: a process begins with a batch or takes a step; its input, its decision, the
-- fixed value of the round, and the number of steps that it has taken
pub record Consensus (R : Type 0) : Type 0 where
  pub begin : ℕ → Batch → R → R
  pub step : ℕ → R → R
  pub input : R → ℕ → Option Batch
  pub decided : R → ℕ → Option Batch
  pub fixed : R → Option Batch
  pub taken : R → ℕ → ℕ

-- the rounds of a protocol, as consensus
abbrev pub consensus_by : ProtocolOfRounds → Consensus (RoundWorld Batch)
consensus_by P = record {
  begin = λ p x w. after_begin p x w;
  step = λ p w. after_step P p w;
  input = λ w p. input_at w p;
  decided = λ w p. decision_at w p;
  fixed = λ w. fixed_value w;
  taken = λ w p. steps_taken P p (local_at w p);
}
