-- What a process gets without reads, by the team that moves first.
use Rattle.std.specs.Prelude.{◌≢◌, ◌↔◌, ℕ, List, map, AllPairs, Contains}
use Rattle.cn_table.specs.TypeTable.{TypeTable, transition}
use Rattle.cn_choice.specs.Canonical.{Choice}
use Rattle.cn_choice.specs.declared.team.Team.{Team}
use Rattle.cn_reasons.specs.Sights.{sights}
use Rattle.cn_reasons.specs.declared.sight.Sight.{Sight}
use Rattle.cn_unread_reasons.specs.declared.sight.Answer.{Answer}
use Rattle.cn_unread_reasons.specs.declared.sight.UnreadSight.{UnreadSight}

-- what the operation answers in a state
abbrev pub answer_in : TypeTable → ℕ → ℕ → Answer
answer_in t q o = record {
  operation = record { 0 = o };
  response = record { 0 = (transition t o q).0 };
}

-- what a process gets that could see the response and the state: the response, and the answers of
-- operations that change nothing in the state, in order
abbrev pub told_sight : TypeTable → List ℕ → Sight → UnreadSight
told_sight t looks s = record {
  response = s.response;
  answers = record { items = map (answer_in t s.state.0) looks };
}

-- the second list has the elements of the first, each once
pub record HasEachOnce {X : Type 0} (xs ys : List X) : Type 0 where
  pub same : (x : X) → Contains ys x ↔ Contains xs x
  pub once : AllPairs (λ x y. x ≢ y) ys

-- the list has what process j gets where the team is first: for each pair of a response and a state
-- that it can see, the response and the answers of the operations in the state
abbrev pub AreSightsOf : TypeTable → List ℕ → Choice → Team → ℕ → List UnreadSight → Type 0
AreSightsOf t looks c team j list = HasEachOnce (map (told_sight t looks) (sights t c team j)) list
