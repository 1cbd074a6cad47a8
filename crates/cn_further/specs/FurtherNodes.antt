-- Nodes with at most one further operation for each process: it does its operation of a choice, then
-- a further one that the response chooses, if there is one, and then tells the team that was first.
-- New here.
use Rattle.std.specs.Prelude.{ℕ, zero, suc, ◌<◌, List, [], ◌∷◌, ◌++◌, length, All, Option, None, Some}
use Rattle.std.specs.Prelude.{◌&&◌, nat_eq, slice_index, if◌then◌else◌}
use Rattle.cn_table.specs.TypeTable.{TypeTable}
use Rattle.cn_choice.specs.Canonical.{Choice, IsChoiceFor, raw_choice_of}
use Rattle.cn_choice.specs.RawChoices.{RawChoice}
use Rattle.cn_choice.specs.declared.team.Team.{Team}
use Rattle.cn_unread.specs.Nodes.{IsNode, Move, Node}
use Rattle.cn_unread.specs.Nodes.Move.{Apply, Finish}
use Rattle.cn_further.specs.declared.follow_up.FollowUp.{FollowUp}

-- the further operation for an operation and a response: that of the first follow-up for both, if
-- there is one
abbrev pub further_of : List FollowUp → ℕ → ℕ → Option ℕ
further_of [] o r = None
further_of (f ∷ fs) o r = if nat_eq f.operation.0 o && nat_eq f.response.0 r
    then Some f.further.0 else further_of fs o r

-- a process keeps two numbers: for the response to its operation, and for that to the further one.
-- Each is 0 until there is the response, and then one more than it.
abbrev pub kept_by : ℕ → ℕ → ℕ × ℕ
kept_by zero r = (suc r, 0)
kept_by (suc first) r = (suc first, suc r)

-- what it keeps with one more response
abbrev pub kept_with : ℕ × ℕ → ℕ → ℕ × ℕ
kept_with x r = kept_by x.0 r

-- the operation that a process does next, by its operation of the choice and the two numbers; none
-- if it has finished
abbrev pub next_by : (ℕ → ℕ → Option ℕ) → ℕ → ℕ → ℕ → Option ℕ
next_by further own zero second = Some own
next_by further own (suc r) zero = further own r
next_by further own (suc r) (suc s) = None

abbrev pub next_operation : List ℕ → (ℕ → ℕ → Option ℕ) → ℕ → ℕ × ℕ → Option ℕ
next_operation operations further j x = next_by further (slice_index operations j) x.0 x.1

abbrev pub move_by : Option ℕ → ℕ × ℕ → Team → Move
move_by None x side = Finish side
move_by (Some o) x side = Apply o (λ r. kept_with x r)

-- the node of a choice, of further operations, and of the team that a role tells when it has
-- finished, by what it keeps
abbrev pub further_node : RawChoice → (ℕ → ℕ → Option ℕ) → (ℕ → ℕ × ℕ → Team) → Node
further_node c further told = record {
  state = c.state;
  start = λ j. (0, 0);
  move = λ j x. move_by (next_operation c.operations further j x) x (told j x);
}

-- the operations of the processes, and all further ones, are the table's
pub record AreKnown (t : TypeTable) (operations : List ℕ) (follow_ups : List FollowUp) : Type 0 where
  pub own : All (λ o. o < length t.operations) operations
  pub further : All (λ f. f.further.0 < length t.operations) follow_ups

-- by its operation of the choice and the further one each of the n processes tells the team that was
-- first: some team for each role and what it keeps is always the right one
pub record TellsFirst (t : TypeTable) (n : ℕ) (c : Choice) (follow_ups : List FollowUp) : Type 0 where
  pub choice : IsChoiceFor t n c
  pub known : AreKnown t (c.a ++ c.b) follow_ups
  pub told : ℕ → ℕ × ℕ → Team
  pub node : IsNode t (length c.a) (length c.b)
      (further_node (raw_choice_of c) (further_of follow_ups) told)
