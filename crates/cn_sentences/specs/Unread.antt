-- Sentences on numbers without reads.
use Rattle.std.specs.Prelude.{ℕ, ◌==◌, List, [], ◌∷◌, ◌++◌, codes}
use Rattle.std.specs.Prelude.{Option, Some, None, flat_map, if◌then◌else◌, length}
use Rattle.std.specs.Fmt.{decimal}
use Rattle.cn_table.specs.Names.{name_at}
use Rattle.cn_table.specs.TypeTable.{TypeTable, operation_names}
use Rattle.cn_choice.specs.TeamNames.{team_name}
use Rattle.cn_choice.specs.declared.team.Team.{Team}
use Rattle.cn_choice.specs.declared.team.Team.TheVariants.{A, B}
use Rattle.cn_further.specs.declared.follow_up.FollowUp.{FollowUp}
use Rattle.cn_unread_number.specs.declared.bounds.NumberBounds.{NumberBounds}
use Rattle.cn_unread_number.specs.declared.bounds.NumberBounds.TheVariants.{AtLeast, Between, Exactly}
use Rattle.cn_unread_number.specs.declared.bounds.NumberBounds.TheVariants.{Infinite}
use Rattle.cn_unread_number.specs.declared.telling.Telling.{Telling}
use Rattle.cn_unread_number.specs.declared.telling.Telling.TheVariants.{Looks, Responses}
use Rattle.cn_unread_reasons.specs.declared.merged.MergedState.{MergedState}
use Rattle.cn_unread_reasons.specs.declared.sight.Answer.{Answer}
use Rattle.cn_unread_reasons.specs.declared.sight.UnreadSight.{UnreadSight}
use Rattle.cn_unread_reasons.specs.declared.signs.SignWitness.{SignWitness}
use Rattle.cn_unread_reasons.specs.declared.witness.UnreadWitness.{UnreadWitness}

-- ---- states that are one

-- a state, and the one that stands for it
unfoldable pub merged_line : TypeTable → TypeTable → MergedState → List ℕ
merged_line given t m =
    codes "No operations tell " ++ (name_at given.states m.state.0 ++ (codes " from "
    ++ (name_at t.states m.class.0 ++ (codes ", so they are one state here.\n" ++ []))))

-- all of them, before an empty line
unfoldable pub merged_text : TypeTable → TypeTable → List MergedState → List ℕ
merged_text given t merged =
    if length merged == 0 then [] else flat_map (merged_line given t) merged ++ (codes "\n" ++ [])

-- ---- types that need no reads

-- why the type needs no reads, if it does not
abbrev pub telling_line : Option Telling → List ℕ
telling_line None = []
telling_line (Some Responses) =
    codes "The response to each operation tells the state that it leaves, so no process needs a read.\n"
telling_line (Some Looks) =
    codes "Operations that change nothing tell all states apart, so no process needs a read.\n"

-- ---- what a process gets

-- the response to an operation, behind a word
unfoldable pub answer_text : TypeTable → List ℕ → Answer → List ℕ
answer_text t before a = before ++ (name_at t.responses a.response.0 ++ (codes " from "
    ++ (name_at (operation_names t) a.operation.0 ++ [])))

-- several of them: the first behind a word of its own, the others behind commas
abbrev pub answers_text : TypeTable → List ℕ → List Answer → List ℕ
answers_text t before [] = []
answers_text t before (a ∷ others) =
    answer_text t before a ++ flat_map (answer_text t (codes ", ")) others

-- the response to the operation of the choice, and what the process gets then
unfoldable pub unread_sight_text : TypeTable → UnreadSight → List ℕ
unread_sight_text t s = codes "got " ++ (name_at t.responses s.response.0
    ++ (answers_text t (codes ", then ") s.answers.items ++ []))

-- ---- what processes do behind their operations of the choice, in lines with a mark

-- that each process looks, if there is something to look with
unfoldable pub looks_line : List ℕ → ℕ → List ℕ
looks_line mark count = if count == 0 then []
    else mark ++ (codes "Then each process does every operation that changes nothing, in order.\n" ++ [])

-- the further operation of who gets a response
unfoldable pub follow_up_line : TypeTable → List ℕ → FollowUp → List ℕ
follow_up_line t mark f = mark ++ (codes "Who gets " ++ (name_at t.responses f.response.0
    ++ (codes " from " ++ (name_at (operation_names t) f.operation.0 ++ (codes " then does "
    ++ (name_at (operation_names t) f.further.0 ++ (codes ".\n" ++ [])))))))

abbrev pub next_steps : TypeTable → List ℕ → UnreadWitness → List ℕ
next_steps t mark w =
    looks_line mark (length w.looks.items) ++ flat_map (follow_up_line t mark) w.follow_ups.items

-- an operation behind a word
unfoldable pub listed_operation : TypeTable → List ℕ → ℕ → List ℕ
listed_operation t before o = before ++ (name_at (operation_names t) o ++ [])

-- operations, with a comma between two
abbrev pub operations_told : TypeTable → List ℕ → List ℕ
operations_told t [] = []
operations_told t (o ∷ os) = listed_operation t [] o ++ flat_map (listed_operation t (codes ", ")) os

abbrev pub other_team : Team → List ℕ
other_team A = team_name B
other_team B = team_name A

-- for which signs each process looks, and how
unfoldable pub search_line : TypeTable → List ℕ → SignWitness → List ℕ
search_line t mark s =
    mark ++ (codes "Then each process does " ++ (operations_told t s.choice.further.items
    ++ (codes " again and again, until it gets a sign of team " ++ (team_name s.choice.side
    ++ (answers_text t (codes ": ") s.signs.items ++ (codes ".\n" ++ []))))))

-- the same, and what a process does with no sign
unfoldable pub sign_search : TypeTable → List ℕ → SignWitness → List ℕ
sign_search t mark s = search_line t mark s ++ (mark
    ++ (codes "Who never gets one decides for team " ++ (other_team s.choice.side
    ++ (codes ".\n" ++ []))))

-- ---- bounds

abbrev pub open_line : List ℕ
open_line = codes "No upper bound was found.\n"

unfoldable pub undecided_line : ℕ → List ℕ
undecided_line n =
    codes "Whether it is more than " ++ (decimal n ++ (codes " is not decided.\n" ++ []))

-- what the bounds leave open
abbrev pub undecided : NumberBounds → List ℕ
undecided (Exactly n) = []
undecided Infinite = []
undecided (Between least most) = undecided_line least
undecided (AtLeast least) = undecided_line least
