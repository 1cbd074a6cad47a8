use Rattle.std.proofs.Common.{◌≡◌, ◌++◌, All, length}
use Rattle.std.specs.List.{AllZip}
use Rattle.cn_choice.specs.Live.{live_choices}
use Rattle.cn_reasons.specs.Known.{IsKnownRecoverableWay}
use Rattle.cn_reasons.specs.Recoverable.{IsRecoverableWayOf}
use Rattle.cn_reasons.specs.Refutations.{first_told}
use Rattle.cn_reasons.proofs.reasons.refutation_for.Given as goal

-- the choices so far and those that are left are all; of those so far the first are told
abbrev pub invariant-loop-choice : goal.invariant-loop-choice
invariant-loop-choice l = record {
  can_next : (goal.iterator-loop-choice).can_next l.choice-iterator;
  is_finite : (goal.iterator-loop-choice).is_finite l.choice-iterator;
  all : l.yielded ++ l.choice-iterator ≡ live_choices l.table l.n;
  ways : AllZip (IsRecoverableWayOf l.table) (first_told l.fn.all l.yielded) l.ways.items;
  known : All (IsKnownRecoverableWay l.table) l.ways.items;
  count : l.count ≡ length l.yielded;
}
