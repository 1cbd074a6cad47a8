use Rattle.std.proofs.Common.{◌<◌, ◌≡◌, [], ℕ, List}
use Rattle.cn_choice.specs.Collisions.{IsCollision}
use Rattle.cn_collisions.proofs.examination.raw_collision.Given as goal

-- no process so far has a collision, and the lists are still empty
abbrev pub invariant-loop-process : goal.invariant-loop-process
invariant-loop-process l = record {
  none : (j : ℕ) → j < l.process → (x y : List ℕ) → ¬ IsCollision l.subject.sets.now.table.now l.subject.raw.now j x y;
  empty : (l.alpha.items ≡ []) × (l.beta.items ≡ []);
}
