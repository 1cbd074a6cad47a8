-- The protocol of two runs reads no object.
use Rattle.std.specs.Prelude.{ℕ, List, Option, Some, None}
use Rattle.cn_consensus.specs.Protocol.{Action}
use Rattle.cn_runs.specs.Plays.{TwoRuns, applying, next_operation, play_protocol}
use Rattle.cn_runs.specs.Steps.{ReadsObject}

applies : {V : Type 0} (got : List ℕ) (next : Option ℕ) (rest : Action (List ℕ) V)
    → ¬ ReadsObject rest → ¬ ReadsObject (applying got next rest)
applies got None rest h = h
applies got (Some operation) rest h = λ r. r

pub reads_none : {V : Type 0} (held : ℕ → V) (rest : ℕ → List ℕ → Action (List ℕ) V) (p : TwoRuns)
    → ((j : ℕ) (got : List ℕ) → ¬ ReadsObject (rest j got))
    → (j : ℕ) (got : List ℕ) → ¬ ReadsObject ((play_protocol held rest p).action j got)
reads_none held rest p h j got = applies got (next_operation p j got) (rest j got) (h j got)
