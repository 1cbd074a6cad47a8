-- The evidence of blocks, part by part.
use Rattle.std.specs.Prelude.{◌≡◌, ℕ, List, length, slice_get, slice_index_or, Option, Some, None}
use Rattle.cn_table.specs.TypeTable.{TypeTable}
use Rattle.cn_choice.specs.Blocks.{Block}
use Rattle.cn_choice.specs.Collisions.{Collision}
use Rattle.cn_choice.specs.Live.{live_in}
use Rattle.cn_search.specs.Kept.{KeepsFor}
use Rattle.cn_search.specs.declared.parts.Part.{Part}

-- the form keeps the collisions of the block at the place
pub record IsOfBlock {E : Type 0} (keeps : E → List Collision → Type 0) (t : TypeTable)
    (blocks : List Block) (place : ℕ) (form : E) : Type 0 where
  pub block : Block
  pub stands : slice_get blocks place ≡ Some block
  pub kept : KeepsFor keeps t (live_in t block) form

-- the part is that of the block at its place
abbrev pub IsPartOf : {E : Type 0} → (E → List Collision → Type 0) → TypeTable
    → List Block → Part E → Type 0
IsPartOf keeps t blocks part = IsOfBlock keeps t blocks part.place part.evidence

-- a slot for each block, and what stands in one is the evidence of its block
pub record AreSlots {E : Type 0} (keeps : E → List Collision → Type 0) (t : TypeTable)
    (blocks : List Block) (slots : List (Option E)) : Type 0 where
  pub long : length slots ≡ length blocks
  pub are : (place : ℕ) (form : E) → slice_index_or slots place None ≡ Some form
      → IsOfBlock keeps t blocks place form
