use Rattle.std.proofs.Common.{ℕ, List, ◌≡◌, ◌<◌, Some, slice_get}
use Rattle.cn_divisions.specs.declared.divisions.Division.{Division}
use Rattle.cn_meetings.specs.Meeting.{Sight}
use Rattle.cn_table.specs.TypeTable.{TypeTable}
use Rattle.cn_shortest.specs.Roots.{AreAll, AreFound, AreWitnesses, Has}
use Rattle.cn_shortest.specs.Sizes.{AreCounts}
use Rattle.cn_shortest.proofs.roots.finest_sizes.Given as goal

abbrev pub invariant-loop-place : goal.invariant-loop-place
invariant-loop-place l = record {
  of_n : AreAll l.fn.n l.list.items;
  found : (t : TypeTable) (sight : Sight) → AreWitnesses t sight l.fn.n l.divisions → AreFound t sight l.fn.n l.list.items;
  all : (i : ℕ) (d : Division) (old : List ℕ) → i < l.place → slice_get l.divisions i ≡ Some d → AreCounts d.sizes.items old → Has l.list.items old;
}
