use Rattle.std.proofs.Common.{◌≡◌, ◌<◌, ◌++◌, ◌∷◌, [], ℕ, List, length, Some, None}
use Rattle.std.specs.Prelude.{slice_index_or}
use Rattle.cn_stocks.specs.Stocks.{HasLess, items_at}
use Rattle.cn_stocks.specs.Words.{times}
use Rattle.cn_stocks.proofs.stocks.Stocks.less_with.Given as goal

-- the places for the operations so far
abbrev pub invariant-loop-other : goal.invariant-loop-other
invariant-loop-other l = record {
  long : length l.less ≡ 8;
  some : (items : List ℕ) → items_at l.self.list.items l.fn.place ≡ Some items → (x j : ℕ) → slice_index_or l.less x None ≡ Some j → HasLess l.self.list.items (items ++ l.fn.operation ∷ []) x j;
  none : (items : List ℕ) → items_at l.self.list.items l.fn.place ≡ Some items → (x : ℕ) → x < l.other → slice_index_or l.less x None ≡ None → times x items ≡ 0;
}
