use Rattle.std.proofs.Common.{◌≡◌, ◌++◌, All}
use Rattle.cn_choice.specs.Canonical.{raw_choice_of}
use Rattle.cn_choice.specs.Live.{live_choices}
use Rattle.cn_game.specs.TrapLists.{IsCaughtStart}
use Rattle.cn_game.proofs.trap.catches_all.Given as goal

-- the choices so far and those that are left are all; those so far are caught
abbrev pub invariant-loop-choice : goal.invariant-loop-choice
invariant-loop-choice l = record {
  can_next : (goal.iterator-loop-choice).can_next l.choice-iterator;
  is_finite : (goal.iterator-loop-choice).is_finite l.choice-iterator;
  all : l.yielded ++ l.choice-iterator ≡ live_choices l.table l.n;
  caught : All (λ c. IsCaughtStart l.table l.turns (raw_choice_of c)) l.yielded;
}
