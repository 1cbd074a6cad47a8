-- What processes get by further operations, by the team that moves first.
use Rattle.std.specs.Prelude.{◌≡◌, ◌≢◌, ◌↔◌, ℕ, List, [], ◌∷◌, ◌++◌, length, AllPairs, Contains}
use Rattle.std.specs.Prelude.{Option, None, Some}
use Rattle.cn_table.specs.TypeTable.{TypeTable}
use Rattle.cn_choice.specs.Canonical.{Choice}
use Rattle.cn_choice.specs.declared.team.Team.{Team}
use Rattle.cn_choice.specs.declared.team.Team.TheVariants.{A, B}
use Rattle.cn_further.specs.FurtherNodes.{further_of}
use Rattle.cn_further.specs.FurtherSights.{IsSight}
use Rattle.cn_further.specs.declared.follow_up.FollowUp.{FollowUp}
use Rattle.cn_further.specs.declared.sight.FurtherAnswer.{FurtherAnswer}
use Rattle.cn_further.specs.declared.sight.FurtherSight.{FurtherSight}
use Rattle.cn_reasons.specs.declared.group.Group.{Group}
use Rattle.cn_unread_reasons.specs.declared.sight.Answer.{Answer}
use Rattle.cn_unread_reasons.specs.declared.sight.UnreadSight.{UnreadSight}
use Rattle.cn_unread_reasons.specs.declared.witness.UnreadView.{UnreadView}

-- the answer of a further operation, if there is one
abbrev pub further_answers : Option FurtherAnswer → List Answer
further_answers None = []
further_answers (Some a) = record { operation = a.operation; response = a.response } ∷ []

-- a process gets the response to its operation, and the answer of its further one
abbrev pub further_sight : FurtherSight → UnreadSight
further_sight s = record {
  response = s.response;
  answers = record { items = further_answers s.further };
}

-- one of the list is of process j, where the team is first, and is told so
abbrev pub IsToldOf : List FurtherSight → Team → ℕ → UnreadSight → Type 0
IsToldOf list team j s = (r : FurtherSight) × Contains list r × (r.process ≡ j)
    × (r.first ≡ team) × (further_sight r ≡ s)

-- the list has what process j can have got when it has finished, where the team is first, each once
pub record AreFurtherSightsOf (t : TypeTable) (follow_ups : List FollowUp) (c : Choice) (team : Team)
    (j : ℕ) (list : List UnreadSight) : Type 0 where
  pub same : (s : UnreadSight) → Contains list s ↔ ((r : FurtherSight)
      × IsSight t c.state (length c.a) (c.a ++ c.b) (further_of follow_ups) r
      × (r.process ≡ j) × (r.first ≡ team) × (further_sight r ≡ s))
  pub once : AllPairs (λ x y. x ≢ y) list

-- what the first process of a group can have got, by the team that is first
pub record IsFurtherViewOf (t : TypeTable) (follow_ups : List FollowUp) (c : Choice) (g : Group)
    (v : UnreadView) : Type 0 where
  pub group : v.group ≡ g
  pub a_first : AreFurtherSightsOf t follow_ups c A g.first v.a_first.items
  pub b_first : AreFurtherSightsOf t follow_ups c B g.first v.b_first.items
