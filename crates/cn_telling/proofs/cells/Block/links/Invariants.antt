use Rattle.std.proofs.Common.{◌≡◌, ◌≢◌, ◌<◌, ◌≤◌, ◌+◌, ◌++◌, ◌∷◌, [], ℕ, List, length, Some, None}
use Rattle.std.specs.Prelude.{slice_index_or}
use Rattle.cn_stocks.specs.Stocks.{HasLess, items_at}
use Rattle.cn_stocks.specs.Words.{times}
use Rattle.cn_telling.proofs.cells.Block.links.Given as goal

-- the links for the other operations so far
abbrev pub invariant-loop-other : goal.invariant-loop-other
invariant-loop-other l = record {
  long : length l.less ≡ 8;
  some : (items : List ℕ) → items_at l.list l.fn.place ≡ Some items → (x j : ℕ) → slice_index_or l.less x None ≡ Some j → HasLess l.list (items ++ l.self.operation ∷ []) x j;
  places : (x j : ℕ) → slice_index_or l.less x None ≡ Some j → (l.self.first + l.self.size ≤ j) × (j < l.fn.place + l.self.size);
  none : (items : List ℕ) → items_at l.list l.fn.place ≡ Some items → (x : ℕ) → x < l.other → x ≢ l.self.operation → slice_index_or l.less x None ≡ None → times x items ≡ 0;
}
