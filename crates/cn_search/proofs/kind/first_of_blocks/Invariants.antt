use Rattle.std.proofs.Common.{◌≤◌, All, length}
use Rattle.cn_search.specs.Search.{IsListedBlock}
use Rattle.cn_search.proofs.Batches.{IsSearched}
use Rattle.cn_search.proofs.kind.first_of_blocks.Given as goal

abbrev pub invariant-loop-remaining : goal.invariant-loop-remaining
invariant-loop-remaining g l = record {
  searched : IsSearched l.table (g.K.Kind.holds l.table) l.blocks l.remaining;
  listed : All (IsListedBlock l.table) l.remaining;
  shorter : length l.remaining ≤ length l.blocks;
}

abbrev pub decreases-loop-remaining : goal.decreases-loop-remaining
decreases-loop-remaining g l = length l.remaining
