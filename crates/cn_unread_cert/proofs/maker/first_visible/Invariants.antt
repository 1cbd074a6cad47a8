use Rattle.std.proofs.Common.{◌≡◌, ◌++◌, All}
use Rattle.cn_choice.specs.Canonical.{raw_choice_of}
use Rattle.cn_choice.specs.Live.{live_choices}
use Rattle.cn_views.specs.VisibleChoices.{SomeLooksTell}
use Rattle.cn_unread_cert.proofs.maker.first_visible.Given as goal

-- the choices so far and those that are left are all; none so far is visible
abbrev pub invariant-loop-choice : goal.invariant-loop-choice
invariant-loop-choice l = record {
  can_next : (goal.iterator-loop-choice).can_next l.choice-iterator;
  is_finite : (goal.iterator-loop-choice).is_finite l.choice-iterator;
  all : l.yielded ++ l.choice-iterator ≡ live_choices l.table l.n;
  none : All (λ d. ¬ SomeLooksTell l.table (raw_choice_of d)) l.yielded;
}
