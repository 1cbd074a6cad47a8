use Rattle.std.proofs.Common.{◌≡◌, ◌<◌, ℕ, length}
use Rattle.cn_stocks.specs.Meetings.{IsOutside}
use Rattle.cn_telling.proofs.meetings.some_outside.Given as goal

-- none of the sets so far is outside
abbrev pub invariant-loop-operation : goal.invariant-loop-operation
invariant-loop-operation l = record {
  long : length l.sets ≡ 8;
  none : (g : ℕ) → g < l.operation → ¬ IsOutside l.sets l.fn.set g;
}
