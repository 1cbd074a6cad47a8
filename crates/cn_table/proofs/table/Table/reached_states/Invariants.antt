use Rattle.std.proofs.Common.{◌≡◌, ℕ, ◌+◌, get_or, length, true, false}
use Rattle.cn_table.specs.Reach.{Leads}
use Rattle.cn_table.proofs.ReachLemmas.{marks}
use Rattle.cn_table.proofs.table.Table.reached_states.Given as goal

-- each round marks one more state, and only states to which operations lead
abbrev pub invariant-loop-round : goal.invariant-loop-round
invariant-loop-round l = record {
  size : length l.marked ≡ 16;
  first : get_or l.marked 0 false ≡ true;
  sound : (q : ℕ) → get_or l.marked q false ≡ true → Leads l.self 0 q;
  many : marks l.marked ≡ l._round + 1;
}
