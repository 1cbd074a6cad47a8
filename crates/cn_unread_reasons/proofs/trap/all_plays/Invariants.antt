use Rattle.std.proofs.Common.{◌≡◌, ◌++◌, All}
use Rattle.std.specs.List.{AllZip}
use Rattle.cn_choice.specs.Live.{live_choices}
use Rattle.cn_unread_reasons.specs.Known.{IsKnownPlay}
use Rattle.cn_unread_reasons.specs.Plays.{IsPlayOf}
use Rattle.cn_unread_reasons.proofs.trap.all_plays.Given as goal

-- the choices so far and those that are left are all
abbrev pub invariant-loop-choice : goal.invariant-loop-choice
invariant-loop-choice l = record {
  can_next : (goal.iterator-loop-choice).can_next l.choice-iterator;
  is_finite : (goal.iterator-loop-choice).is_finite l.choice-iterator;
  all : l.yielded ++ l.choice-iterator ≡ live_choices l.table l.n;
  plays : AllZip (IsPlayOf l.table) l.yielded l.plays.items;
  known : All (IsKnownPlay l.table) l.plays.items;
}
