-- Collisions that are kept in some form.
use Rattle.std.specs.Prelude.{ℕ, List}
use Rattle.cn_table.specs.TypeTable.{TypeTable}
use Rattle.cn_choice.specs.Canonical.{Choice}
use Rattle.cn_choice.specs.Collisions.{Collision}
use Rattle.cn_search.specs.declared.outline.Outline.{Outline}
use Rattle.cn_finding.specs.Evidence.{AreRecordedFor, IsFindingFor}
use Rattle.cn_finding.specs.Finding.{Finding}

-- the form keeps the recorded collision of each choice of the list, in their order
pub record KeepsFor {E : Type 0} (keeps : E → List Collision → Type 0) (t : TypeTable)
    (choices : List Choice) (form : E) : Type 0 where
  pub kept : List Collision
  pub keeps_these : keeps form kept
  pub recorded : AreRecordedFor t choices kept

-- the limit, the number and the witness with these collisions
abbrev pub finding_of : Outline → List Collision → Finding
finding_of o collisions =
    record { limit = o.limit; number = o.number; witness = o.witness; collisions = collisions }

-- what is found with the collisions that the form keeps is the finding of the type up to the limit
pub record IsFoundFor {E : Type 0} (keeps : E → List Collision → Type 0) (t : TypeTable) (limit : ℕ)
    (found : Outline × E) : Type 0 where
  pub kept : List Collision
  pub keeps_these : keeps found.1 kept
  pub finding : IsFindingFor t limit (finding_of found.0 kept)
