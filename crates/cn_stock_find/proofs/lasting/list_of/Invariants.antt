use Rattle.std.proofs.Common.{◌≡◌, ◌++◌}
use Rattle.cn_outcomes.specs.Bits.{members}
use Rattle.cn_stock_find.proofs.lasting.list_of.Given as goal

-- the states so far and those that are left are all
abbrev pub invariant-loop-state : goal.invariant-loop-state
invariant-loop-state l = record {
  can_next : (goal.iterator-loop-state).can_next l.state-iterator;
  is_finite : (goal.iterator-loop-state).is_finite l.state-iterator;
  all : l.list.items ++ l.state-iterator ≡ members l.fn.set;
}
