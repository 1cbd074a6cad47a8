use Rattle.std.proofs.Common.{◌≡◌, ◌<◌, ◌≤◌, ◌↔◌, ℕ, length}
use Rattle.cn_stocks.specs.Meetings.{HasAt}
use Rattle.cn_stocks.specs.Words.{EndsIn}
use Rattle.cn_telling.proofs.ends.left_states.Given as goal

-- the sets of the operations so far; the others are empty
abbrev pub invariant-loop-operation : goal.invariant-loop-operation
invariant-loop-operation l = record {
  long : length l.sets ≡ 8;
  done : (f q : ℕ) → f < l.operation → HasAt l.sets f q ↔ EndsIn l.setting.table.now l.fn.start l.setting.stock.now.operations.items f q;
  none : (f q : ℕ) → l.operation ≤ f → ¬ HasAt l.sets f q;
}
