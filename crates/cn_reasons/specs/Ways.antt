-- The ways that a certificate refutes.
use Rattle.std.specs.Prelude.{◌≡◌, Some}
use Rattle.cn_table.specs.TypeTable.{TypeTable}
use Rattle.cn_choice.specs.Canonical.{FitsTable, raw_choice_of}
use Rattle.cn_choice.specs.Collisions.{Collision, IsCollision}
use Rattle.cn_choice.specs.OutcomeSets.{pair_of}
use Rattle.cn_reasons.specs.Groups.{choice_groups}
use Rattle.cn_reasons.specs.Runs.{runs_of}
use Rattle.cn_reasons.specs.declared.sight.Sight.{Sight}
use Rattle.cn_reasons.specs.declared.way.Way.{Way}

-- the entry holds a collision of its choice, which is one of the table for 2 to 8 processes
pub record IsCollisionOf (t : TypeTable) (e : Collision) : Type 0 where
  pub fits : FitsTable t e.choice
  pub collision : IsCollision t (raw_choice_of e.choice) e.process e.alpha e.beta

-- it is what the process of the entry sees of both runs
pub record IsSightOf (t : TypeTable) (e : Collision) (s : Sight) : Type 0 where
  pub alpha : pair_of t (raw_choice_of e.choice) e.alpha e.process
      ≡ Some (s.response.0, s.state.0)
  pub beta : pair_of t (raw_choice_of e.choice) e.beta e.process ≡ Some (s.response.0, s.state.0)

-- the way of an entry: its choice, its process, and its runs
pub record IsWayOf (t : TypeTable) (e : Collision) (w : Way) : Type 0 where
  pub choice : w.choice ≡ choice_groups e.choice
  pub process : w.process ≡ e.process
  pub sight : IsSightOf t e w.sight
  pub runs : w.runs ≡ runs_of t (raw_choice_of e.choice) e.alpha e.beta
