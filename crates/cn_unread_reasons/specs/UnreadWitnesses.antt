-- Choices whose teams processes tell apart without reads, with what they get.
use Rattle.std.specs.Prelude.{◌≡◌, ◌⊎◌, ℕ, List, [], map}
use Rattle.std.specs.List.{AllZip}
use Rattle.cn_table.specs.TypeTable.{TypeTable}
use Rattle.cn_table.specs.declared.elements.Operation.{Operation}
use Rattle.cn_choice.specs.Canonical.{Choice, raw_choice_of}
use Rattle.cn_choice.specs.RawChoices.{IsRawChoice}
use Rattle.cn_choice.specs.declared.team.Team.TheVariants.{A, B}
use Rattle.cn_further.specs.FurtherNodes.{TellsFirst}
use Rattle.cn_reasons.specs.Groups.{choice_groups, groups_of}
use Rattle.cn_reasons.specs.declared.group.Group.{Group}
use Rattle.cn_unread.specs.Collects.{IsVisible}
use Rattle.cn_unread_reasons.specs.FurtherViews.{IsFurtherViewOf}
use Rattle.cn_unread_reasons.specs.UnreadSights.{AreSightsOf}
use Rattle.cn_unread_reasons.specs.declared.witness.UnreadView.{UnreadView}
use Rattle.cn_unread_reasons.specs.declared.witness.UnreadWitness.{UnreadWitness}
use Rattle.cn_views.specs.SilentOperations.{AreSilentOperations}

abbrev pub numbers_of : List Operation → List ℕ
numbers_of operations = map (λ o. o.0) operations

-- what the first process of a group gets, by the team that is first
pub record IsUnreadViewOf (t : TypeTable) (looks : List ℕ) (c : Choice) (g : Group) (v : UnreadView)
    : Type 0 where
  pub group : v.group ≡ g
  pub a_first : AreSightsOf t looks c A g.first v.a_first.items
  pub b_first : AreSightsOf t looks c B g.first v.b_first.items

-- all operations that change nothing together tell the teams of the choice apart
pub record IsVisibleWitness (t : TypeTable) (c : Choice) (w : UnreadWitness) : Type 0 where
  pub looks : AreSilentOperations t (numbers_of w.looks.items)
  pub no_further : w.follow_ups.items ≡ []
  pub visible : IsVisible t (numbers_of w.looks.items) (raw_choice_of c)
  pub views : AllZip (IsUnreadViewOf t (numbers_of w.looks.items) c) (groups_of c) w.views.items

-- a further operation of each process tells the teams of the choice for n processes apart
pub record IsFurtherWitness (t : TypeTable) (n : ℕ) (c : Choice) (w : UnreadWitness)
    : Type 0 where
  pub no_looks : w.looks.items ≡ []
  pub tells : TellsFirst t n c w.follow_ups.items
  pub views : AllZip (IsFurtherViewOf t w.follow_ups.items c) (groups_of c) w.views.items

-- a choice for n processes, whose teams they tell apart in one of these ways
pub record IsUnreadWitnessOf (t : TypeTable) (n : ℕ) (w : UnreadWitness) : Type 0 where
  pub processes : w.processes ≡ n
  pub c : Choice
  pub for_n : IsRawChoice t n (raw_choice_of c)
  pub choice : w.choice ≡ choice_groups c
  pub told : IsVisibleWitness t c w ⊎ IsFurtherWitness t n c w
