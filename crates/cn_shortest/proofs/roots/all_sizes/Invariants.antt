use Rattle.cn_meetings.specs.Meeting.{Sight}
use Rattle.cn_table.specs.TypeTable.{TypeTable}
use Rattle.cn_shortest.specs.Roots.{AreAll, AreFound, AreWitnesses, HasAllWithin}
use Rattle.cn_shortest.proofs.roots.all_sizes.Given as goal

abbrev pub invariant-loop-merges : goal.invariant-loop-merges
invariant-loop-merges l = record {
  of_n : AreAll l.fn.n l.list.items;
  found : (t : TypeTable) (sight : Sight) → AreWitnesses t sight l.fn.n l.divisions → AreFound t sight l.fn.n l.list.items;
  all : HasAllWithin l.fn.n l._merges l.divisions l.list.items;
}
