use Rattle.std.proofs.Common.{◌≡◌, Some, length, slice_get}
use Rattle.cn_stocks.specs.Each.{EachAt}
use Rattle.cn_divisions.specs.Levels.{AreStarts}
use Rattle.cn_meetings.specs.Sights.{sight_of}
use Rattle.cn_meetings.specs.declared.sight.Sight.{Sight}
use Rattle.cn_divisions.proofs.search.Search.any_starts.Given as goal

-- those by the sights so far
abbrev pub invariant-loop-place : goal.invariant-loop-place
invariant-loop-place l = EachAt (λ i s. (sight : Sight) → slice_get l.fn.sights i ≡ Some sight → AreStarts l.fn.table (sight_of sight) l.self.stocks.list.items (length l.self.stocks.list.items) s.sets.items) l._place l.starts.items
