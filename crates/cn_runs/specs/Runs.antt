-- Runs of the protocol of a plan in the model, and what the processes have decided at their end.
use Rattle.std.specs.Prelude.{ℕ, ◌-◌, List, map, slice_index_or, nat_eq, cond}
use Rattle.std.specs.Prelude.{Bool, true, false, Option, Some, None}
use Rattle.cn_proto.specs.Plan.{Plan, processes_of}
use Rattle.cn_consensus.specs.Configuration.{after, decision, initial}
use Rattle.cn_consensus.specs.Types.{all_of}
use Rattle.cn_solvable.specs.RoundProtocol.{listed, plan_protocol}

-- the input of each process, a schedule, and what each process has decided at its end
pub record Run : Type 0 where
  pub inputs : List Bool
  pub schedule : List ℕ
  pub decisions : List (Option Bool)

-- the digit of this code
abbrev pub digit : ℕ → ℕ
digit code = code - 48

-- the decision that a character stands for: 0 is false, 1 is true, and any other is none
abbrev pub decision_told : ℕ → Option Bool
decision_told code =
    cond (nat_eq (digit code) 1) (Some true) (cond (nat_eq code 48) (Some false) None)

-- the run that three texts spell: an input for each process, 1 for true; a process for each step;
-- and a decision for each process
abbrev pub run : List ℕ → List ℕ → List ℕ → Run
run inputs schedule decisions = record {
  inputs = map (λ code. nat_eq (digit code) 1) inputs;
  schedule = map digit schedule;
  decisions = map decision_told decisions;
}

-- what each process has decided after the schedule of the run, by the protocol of the plan
abbrev pub model_decisions : Plan → Run → List (Option Bool)
model_decisions plan run =
    let P = plan_protocol plan in
    let start = initial P (λ p. slice_index_or run.inputs p false) in
    listed (processes_of plan) (decision P (after (all_of plan.table) P start run.schedule))
