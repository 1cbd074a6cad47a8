use Rattle.std.proofs.Common.{◌≡◌, ◌++◌, length}
use Rattle.cn_choice.specs.Live.{live_choices}
use Rattle.cn_unread_reasons.proofs.trap.count_live.Given as goal

-- the choices so far and those that are left are all
abbrev pub invariant-loop-choice : goal.invariant-loop-choice
invariant-loop-choice l = record {
  can_next : (goal.iterator-loop-choice).can_next l._choice-iterator;
  is_finite : (goal.iterator-loop-choice).is_finite l._choice-iterator;
  all : l.yielded ++ l._choice-iterator ≡ live_choices l.table l.n;
  count : l.count ≡ length l.yielded;
}
