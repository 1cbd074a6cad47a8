use Rattle.std.proofs.Common.{◌<◌, ◌≤◌, ℕ}
use Rattle.std.specs.Prelude.{IsBitSet}
use Rattle.cn_collisions.specs.Ways.{IsTried}
use Rattle.cn_collisions.proofs.WayLemmas.{Dead}
use Rattle.cn_collisions.proofs.ways.first_step.Given as goal

-- no process so far leads into the set, and each operation tried is that of one of them
abbrev pub invariant-loop-process : goal.invariant-loop-process
invariant-loop-process l =
    let at = l.fn.prefix in
    record {
      dead : (p : ℕ) → l.fn.low ≤ p → p < l.process
          → Dead l.view.sets.now.table.now l.view.raw.now l.view.process l.target l.fn.left l.fn.low l.fn.high at.used at.state.0 at.seen p;
      tried : (o : ℕ) → IsBitSet l.tried o → IsTried l.view.raw.now l.view.process l.fn.low l.process at.used o;
    }
