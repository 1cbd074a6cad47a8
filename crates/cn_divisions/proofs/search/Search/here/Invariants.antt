use Rattle.std.proofs.Common.{◌≡◌, Some, length, slice_get}
use Rattle.cn_stocks.specs.Each.{EachAt}
use Rattle.cn_divisions.specs.Divisions.{AreOfSight}
use Rattle.cn_divisions.specs.Levels.{AreStarts}
use Rattle.cn_meetings.specs.Sights.{sight_of}
use Rattle.cn_meetings.specs.declared.sight.Sight.{Sight}
use Rattle.cn_divisions.proofs.search.Search.here.Given as goal

-- those by the sights so far
abbrev pub invariant-loop-place : goal.invariant-loop-place
invariant-loop-place l = record {
  divisions : EachAt (AreOfSight l.table l.fn.sights l.fn.n) l.place l.by_sight.items;
  starts : EachAt (λ i s. (sight : Sight) → slice_get l.fn.sights i ≡ Some sight → AreStarts l.table (sight_of sight) l.fn.self.stocks.list.items (length l.fn.self.stocks.list.items) s.sets.items) l.place l.next.items;
}
