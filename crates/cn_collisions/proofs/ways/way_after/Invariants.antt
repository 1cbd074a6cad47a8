use Rattle.std.proofs.Common.{◌≤◌, ◌+◌, ◌-◌, ◌∷◌, ◌++◌, [], length}
use Rattle.cn_choice.specs.declared.limits.TheConstants.{MOST_PROCESSES}
use Rattle.cn_collisions.specs.Steps.{LeadsOnward}
use Rattle.cn_collisions.specs.Views.{IsPrefix, moves_left}
use Rattle.cn_collisions.proofs.OpeningLemmas.{GoesOn}
use Rattle.cn_collisions.proofs.ways.way_after.Given as goal

-- some way leads on from here, and the first one ends the first way from the step
abbrev pub invariant-loop-moved : goal.invariant-loop-moved
invariant-loop-moved l = record {
  prefix : IsPrefix l.view l.at;
  room : l.fn.left - l.moved ≤ moves_left l.at;
  short : length l.order.items + (l.fn.left - l.moved) ≤ MOST_PROCESSES;
  leads : LeadsOnward l.view l.target (l.fn.left - l.moved) l.at;
  whole : GoesOn l.view l.target (l.fn.left - l.moved) l.at l.order.items l.fn.left l.step.prefix (l.fn.order.items ++ l.step.process ∷ []);
}
