-- The witness of a number, with what each of its processes can see.
use Rattle.std.specs.Prelude.{◌≡◌, ◌+◌, length}
use Rattle.std.specs.List.{AllZip}
use Rattle.cn_table.specs.TypeTable.{TypeTable}
use Rattle.cn_choice.specs.Canonical.{Choice}
use Rattle.cn_choice.specs.declared.team.Team.TheVariants.{A, B}
use Rattle.cn_reasons.specs.Groups.{choice_groups, groups_of}
use Rattle.cn_reasons.specs.Sights.{sights}
use Rattle.cn_reasons.specs.declared.group.Group.{Group}
use Rattle.cn_reasons.specs.declared.witness.View.{View}
use Rattle.cn_reasons.specs.declared.witness.Witness.{Witness}

-- what the first process of a group can see, by the team that is first
pub record IsViewOf (t : TypeTable) (c : Choice) (g : Group) (v : View) : Type 0 where
  pub group : v.group ≡ g
  pub a_first : v.a_first.items ≡ sights t c A g.first
  pub b_first : v.b_first.items ≡ sights t c B g.first

-- the choice with the views of its groups
pub record IsWitnessOf (t : TypeTable) (c : Choice) (w : Witness) : Type 0 where
  pub processes : w.processes ≡ length c.a + length c.b
  pub choice : w.choice ≡ choice_groups c
  pub views : AllZip (IsViewOf t c) (groups_of c) w.views.items
