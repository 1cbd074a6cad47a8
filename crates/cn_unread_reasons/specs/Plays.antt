-- Plays: two runs of a choice, one begun by each team, that some process cannot tell apart. New here.
use Rattle.std.specs.Prelude.{◌≡◌, ◌≢◌, ◌==◌, ℕ, ◌<◌, List, [], ◌∷◌, length, slice_get, slice_index}
use Rattle.std.specs.Prelude.{MatchOption, Some}
use Rattle.std.specs.List.{filter}
use Rattle.cn_table.specs.TypeTable.{TypeTable, transition}
use Rattle.cn_choice.specs.Canonical.{Choice, raw_choice_of}
use Rattle.cn_choice.specs.RawChoices.{RawChoice}
use Rattle.cn_choice.specs.declared.team.Team.{Team}
use Rattle.cn_choice.specs.declared.team.Team.TheVariants.{A, B}
use Rattle.cn_reasons.specs.Groups.{choice_groups}
use Rattle.cn_reasons.specs.declared.runs.Step.{Step}
use Rattle.cn_unread_reasons.specs.declared.play.Play.{Play}
use Rattle.cn_unread_reasons.specs.declared.play.PlayEnd.{PlayEnd}

-- the step is one of n processes, with an operation of the type: it gets the response of the
-- operation in the state, and leaves the next state
pub record IsStepIn (t : TypeTable) (n q : ℕ) (s : Step) : Type 0 where
  pub process : s.process < n
  pub operation : s.operation.0 < length t.operations
  pub response : (transition t s.operation.0 q).0 ≡ s.response.0
  pub state : (transition t s.operation.0 q).1 ≡ s.state.0

-- a run of n processes from the state: each step is one in the state that the step before leaves
abbrev pub IsRunFrom : TypeTable → ℕ → ℕ → List Step → Type 0
IsRunFrom t n q [] = Unit {0}
IsRunFrom t n q (s ∷ ss) = IsStepIn t n q s × IsRunFrom t n s.state.0 ss

-- the state that a run leaves
abbrev pub state_left : ℕ → List Step → ℕ
state_left q [] = q
state_left q (s ∷ ss) = state_left s.state.0 ss

-- the first step is by a process of the team
abbrev pub IsBegunBy : RawChoice → Team → List Step → Type 0
IsBegunBy c team [] = ⊥
IsBegunBy c team (s ∷ ss) = slice_get c.marks s.process ≡ Some team

-- the steps of process j in a run
abbrev pub steps_by : ℕ → List Step → List Step
steps_by j run = filter (λ s. s.process == j) run

-- the first of the steps, if there is one, is with this operation
abbrev pub BeginWith : ℕ → List Step → Type 0
BeginWith o [] = Unit {0}
BeginWith o (s ∷ ss) = s.operation.0 ≡ o

-- the steps of one process in two runs, where it does the same as long as it has got the same: once
-- it has got different responses, or has moved in one of the runs alone, it moves no more
abbrev pub GoAlong : List Step → List Step → Type 0
GoAlong [] [] = Unit {0}
GoAlong [] (y ∷ ys) = ys ≡ []
GoAlong (x ∷ xs) [] = xs ≡ []
GoAlong (x ∷ xs) (y ∷ ys) = (x.operation.0 ≡ y.operation.0)
    × (x.response.0 ≡ y.response.0 → GoAlong xs ys)
    × (x.response.0 ≢ y.response.0 → (xs ≡ []) × (ys ≡ []))

-- the steps of one process in two runs, in which it does and gets the same
abbrev pub AreSame : List Step → List Step → Type 0
AreSame [] [] = Unit {0}
AreSame [] (y ∷ ys) = ⊥
AreSame (x ∷ xs) [] = ⊥
AreSame (x ∷ xs) (y ∷ ys) = (x.operation.0 ≡ y.operation.0) × (x.response.0 ≡ y.response.0)
    × AreSame xs ys

-- process j does in both runs what one protocol could do: it begins with its operation of the choice
pub record DoesAlong (c : RawChoice) (a_first b_first : List Step) (j : ℕ) : Type 0 where
  pub a_begin : BeginWith (slice_index c.operations j) (steps_by j a_first)
  pub b_begin : BeginWith (slice_index c.operations j) (steps_by j b_first)
  pub along : GoAlong (steps_by j a_first) (steps_by j b_first)

-- two runs of the choice, the first begun by team A and the second by team B, that end so: both leave
-- the state, and the process gets the same in both
pub record AreRunsTo (t : TypeTable) (c : RawChoice) (a_first b_first : List Step) (end : PlayEnd)
    : Type 0 where
  pub a_run : IsRunFrom t (length c.operations) c.state a_first
  pub b_run : IsRunFrom t (length c.operations) c.state b_first
  pub a_begun : IsBegunBy c A a_first
  pub b_begun : IsBegunBy c B b_first
  pub along : (j : ℕ) → j < length c.operations → DoesAlong c a_first b_first j
  pub process : end.process < length c.operations
  pub same : AreSame (steps_by end.process a_first) (steps_by end.process b_first)
  pub a_left : state_left c.state a_first ≡ end.state.0
  pub b_left : state_left c.state b_first ≡ end.state.0

-- the play is of the choice; with no end its runs are empty
pub record IsPlayOf (t : TypeTable) (c : Choice) (p : Play) : Type 0 where
  pub choice : p.choice ≡ choice_groups c
  pub runs : MatchOption p.end ((p.a_first.items ≡ []) × (p.b_first.items ≡ []))
      (AreRunsTo t (raw_choice_of c) p.a_first.items p.b_first.items)
