-- Two runs of a choice, one begun by each team, and a protocol in the model that makes both.
-- New here.
use Rattle.std.specs.Prelude.{◌≡◌, ℕ, List, [], ◌∷◌, ◌++◌, map, length, replicate, slice_get}
use Rattle.std.specs.Prelude.{slice_index, Bool, true, nat_eq, nat_lt, cond, Option, Some, None}
use Rattle.std.specs.List.{filter, list_all, range_with_len}
use Rattle.cn_table.specs.TypeTable.{TypeTable}
use Rattle.cn_choice.specs.Canonical.{raw_choice_of}
use Rattle.cn_choice.specs.RawChoices.{RawChoice}
use Rattle.cn_choice.specs.declared.team.Team.{Team}
use Rattle.cn_choice.specs.declared.team.Team.TheVariants.{A, B}
use Rattle.cn_consensus.specs.Protocol.{Action, Protocol}
use Rattle.cn_consensus.specs.Protocol.Action.{ApplyOperation}
use Rattle.cn_consensus.specs.Configuration.{Configuration, after, initial, step}
use Rattle.cn_consensus.specs.Types.{all_of}

-- a step of a run: its process, the operation, the response, and the state that it leaves
pub record PlayStep : Type 0 where
  pub process : ℕ
  pub operation : ℕ
  pub response : ℕ
  pub state : ℕ

-- a choice; a run that team A begins, and one that team B begins; and a process
pub record TwoRuns : Type 0 where
  pub choice : RawChoice
  pub a_first : List PlayStep
  pub b_first : List PlayStep
  pub process : ℕ

abbrev pub step_of : ℕ → ℕ → ℕ → ℕ → PlayStep
step_of process operation response state = record {
  process = process;
  operation = operation;
  response = response;
  state = state;
}

-- the two runs of the choice with this start state, these operations of team A and these of team B
abbrev pub two_runs : ℕ → List ℕ → List ℕ → ℕ → List PlayStep → List PlayStep → TwoRuns
two_runs state a b process a_first b_first = record {
  choice = raw_choice_of (record { state = state; a = a; b = b });
  a_first = a_first;
  b_first = b_first;
  process = process;
}

-- ---- what two runs tell

-- the steps of process j in a run
abbrev pub steps_by : ℕ → List PlayStep → List PlayStep
steps_by j run = filter (λ s. nat_eq s.process j) run

-- the responses that process j gets in a run, in order
abbrev pub responses_to : ℕ → List PlayStep → List ℕ
responses_to j run = map (λ s. s.response) (steps_by j run)

-- the processes of a run, step by step
abbrev pub schedule_of : List PlayStep → List ℕ
schedule_of run = map (λ s. s.process) run

-- the team of the process that takes the first step
abbrev pub first_team : RawChoice → List PlayStep → Option Team
first_team c [] = None
first_team c (s ∷ ss) = slice_get c.marks s.process

-- how many processes the choice has
abbrev pub processes : TwoRuns → ℕ
processes p = length p.choice.operations

-- each step is by one of these
abbrev pub has_known_processes : TwoRuns → Bool
has_known_processes p =
    list_all (λ s. nat_lt s.process (processes p)) (p.a_first ++ p.b_first)

-- ---- the protocol of two runs. The local state of a process is the list of the responses that it
-- has got. It uses one object, object 0, and reads no object.

-- the operation of the step behind steps that got exactly these responses, if there is one
abbrev pub operation_behind : List PlayStep → List ℕ → Option ℕ
operation_behind [] got = None
operation_behind (s ∷ ss) [] = Some s.operation
operation_behind (s ∷ ss) (r ∷ got) = cond (nat_eq s.response r) (operation_behind ss got) None

-- the first one, if there is one, else the second one
abbrev pub first_of : Option ℕ → Option ℕ → Option ℕ
first_of None other = other
first_of (Some operation) other = Some operation

-- the next operation of process j, once it has got these responses: first that of the choice; then
-- that of its next step in a run in which it has got the same so far
abbrev pub next_operation : TwoRuns → ℕ → List ℕ → Option ℕ
next_operation p j [] = Some (slice_index p.choice.operations j)
next_operation p j (r ∷ got) = first_of (operation_behind (steps_by j p.a_first) (r ∷ got))
    (operation_behind (steps_by j p.b_first) (r ∷ got))

-- the process applies the operation, and keeps its response behind the others; or it does the rest
abbrev pub applying : {V : Type 0} → List ℕ → Option ℕ → Action (List ℕ) V → Action (List ℕ) V
applying got None rest = rest
applying got (Some operation) rest = ApplyOperation 0 operation (λ response. got ++ response ∷ [])

-- the protocol that makes the two runs. Where they tell no next step, a process does what `rest`
-- says, which may be anything.
abbrev pub play_protocol : {V : Type 0} → (ℕ → V) → (ℕ → List ℕ → Action (List ℕ) V) → TwoRuns
    → Protocol (List ℕ) V
play_protocol held rest p = record {
  start = λ j input. [];
  action = λ j got. applying got (next_operation p j got) (rest j got);
  registers = held;
  objects = λ i. p.choice.state;
}

-- ---- a run in the model

-- the configuration behind the steps of a run, from these inputs
abbrev pub configuration_behind : {V : Type 0} → TypeTable → Protocol (List ℕ) V → (ℕ → Bool)
    → List PlayStep → Configuration (List ℕ) V
configuration_behind t P inputs run = after (all_of t) P (initial P inputs) (schedule_of run)

-- the state of object i behind each step of a schedule
abbrev pub states_along : {L V : Type 0} → (ℕ → TypeTable) → Protocol L V → ℕ
    → Configuration L V → List ℕ → List ℕ
states_along t P i c [] = []
states_along t P i c (p ∷ ps) =
    let d = step t P c p in d.objects i ∷ states_along t P i d ps

-- the responses of each process of a run in the model, and the states of the object along it
abbrev pub model_run : {V : Type 0} → TypeTable → (ℕ → V) → (ℕ → List ℕ → Action (List ℕ) V)
    → (ℕ → Bool) → TwoRuns → List PlayStep → List (List ℕ) × List ℕ
model_run t held rest inputs p run =
    let P = play_protocol held rest p in
    let end = configuration_behind t P inputs run in (
      map end.locals (range_with_len 0 (processes p)),
      states_along (all_of t) P 0 (initial P inputs) (schedule_of run),
    )

-- the same as the steps of the run tell it
abbrev pub told_run : TwoRuns → List PlayStep → List (List ℕ) × List ℕ
told_run p run = (
  map (λ j. responses_to j run) (range_with_len 0 (processes p)),
  map (λ s. s.state) run,
)

-- what the process of the two runs, and the object, come to by a run in the model
abbrev pub model_end : {V : Type 0} → TypeTable → (ℕ → V) → (ℕ → List ℕ → Action (List ℕ) V)
    → (ℕ → Bool) → TwoRuns → List PlayStep → List ℕ × ℕ
model_end t held rest inputs p run =
    let end = configuration_behind t (play_protocol held rest p) inputs run in
    (end.locals p.process, end.objects 0)

-- the runs of each of these are runs of its protocol, whatever its registers hold, what processes
-- do behind the runs, and which inputs they have: one is begun by each team, each process gets the
-- responses that the steps tell, and they leave the object in the states that they tell. At the
-- end the object is in one state, and the process of the two runs has got the same.
pub record AreMade (V : Type 0) (t : TypeTable) (plays : List TwoRuns) : Type 0 where
  pub known : map has_known_processes plays ≡ replicate (length plays) true
  pub a_begins : map (λ p. first_team p.choice p.a_first) plays
      ≡ replicate (length plays) (Some A)
  pub b_begins : map (λ p. first_team p.choice p.b_first) plays
      ≡ replicate (length plays) (Some B)
  pub a_first : (held : ℕ → V) (rest : ℕ → List ℕ → Action (List ℕ) V) (inputs : ℕ → Bool)
      → map (λ p. model_run t held rest inputs p p.a_first) plays
      ≡ map (λ p. told_run p p.a_first) plays
  pub b_first : (held : ℕ → V) (rest : ℕ → List ℕ → Action (List ℕ) V) (inputs : ℕ → Bool)
      → map (λ p. model_run t held rest inputs p p.b_first) plays
      ≡ map (λ p. told_run p p.b_first) plays
  pub same : (held : ℕ → V) (rest : ℕ → List ℕ → Action (List ℕ) V) (inputs : ℕ → Bool)
      → map (λ p. model_end t held rest inputs p p.a_first) plays
      ≡ map (λ p. model_end t held rest inputs p p.b_first) plays
