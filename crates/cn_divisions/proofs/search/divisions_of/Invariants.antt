use Rattle.std.proofs.Common.{ℕ, List, ◌≡◌, ◌<◌, All, Some}
use Rattle.cn_meetings.specs.Meeting.{Meeting}
use Rattle.cn_stocks.specs.Stocks.{items_at}
use Rattle.cn_stocks.specs.Words.{HaveSame}
use Rattle.cn_divisions.specs.Divisions.{DifferInSizes, HaveSizesOf, IsDivision, IsMeetingOf, operations_of}
use Rattle.cn_divisions.specs.Levels.{AreStarts}
use Rattle.cn_meetings.specs.Sights.{sight_of}
use Rattle.cn_divisions.proofs.search.divisions_of.Given as goal

-- the divisions by the stocks so far
abbrev pub invariant-loop-place : goal.invariant-loop-place
invariant-loop-place l = record {
  are : All (IsDivision l.table (sight_of l.look.sight) l.fn.n) l.divisions.items;
  once : DifferInSizes l.divisions.items;
  done : (M : Meeting) → IsMeetingOf l.table (sight_of l.look.sight) l.fn.n M → (i : ℕ) (items : List ℕ) → i < l.place → items_at l.fn.stocks.list.items i ≡ Some items
      → HaveSame items (operations_of M l.fn.n) → HaveSizesOf l.table l.fn.n M l.divisions.items;
  starts_are : AreStarts l.table (sight_of l.look.sight) l.fn.stocks.list.items l.place l.sets.items;
}
