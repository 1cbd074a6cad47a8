use Rattle.std.proofs.Common.{◌<◌, ℕ, get_or}
use Rattle.cn_collisions.specs.declared.ways.Step.{Step}
use Rattle.cn_collisions.specs.Steps.{LeadsOnward}
use Rattle.cn_collisions.proofs.ways.first_opening.Given as goal

-- no step so far leads on
abbrev pub invariant-loop-step : goal.invariant-loop-step
invariant-loop-step l = (k : ℕ) (d : Step) → k < l.step-index → ¬ LeadsOnward l.view l.target l.fn.left (get_or l.openings k d).prefix
