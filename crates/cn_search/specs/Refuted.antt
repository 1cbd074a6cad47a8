-- Blocks whose choices are refuted, with the sets that show it.
use Rattle.cn_table.specs.TypeTable.{TypeTable}
use Rattle.cn_choice.specs.Blocks.{Block}
use Rattle.cn_collisions.specs.declared.sets.Sets.{Sets}
use Rattle.cn_collisions.specs.Levels.{AreSetsFor}
use Rattle.cn_search.specs.Search.{IsRefutedBlock}

-- no live choice of the block is a witness, and the sets are those of the type for its number of
-- processes
pub record IsRefutedWith (t : TypeTable) (s : Sets) (k : Block) : Type 0 where
  pub block : IsRefutedBlock t k
  pub sets : AreSetsFor t k.n s
