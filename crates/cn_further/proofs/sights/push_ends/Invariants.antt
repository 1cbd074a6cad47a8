use Rattle.std.proofs.Common.{◌≡◌, ◌≢◌, ◌<◌, ℕ, All, Contains}
use Rattle.std.specs.Prelude.{AllPairs, None}
use Rattle.cn_table.specs.TypeTable.{TypeTable}
use Rattle.cn_further.specs.FurtherNodes.{further_of, next_operation}
use Rattle.cn_further.specs.FurtherSights.{IsEndOf, IsReached, IsSight}
use Rattle.cn_further.specs.SceneLists.{kept_at}
use Rattle.cn_further.specs.declared.sight.FurtherSight.{FurtherSight}
use Rattle.cn_further.proofs.sights.push_ends.Given as goal

-- so it is of the processes so far
abbrev pub invariant-loop-process : goal.invariant-loop-process
invariant-loop-process l = record {
  ends : (j : ℕ) → j < l.process → next_operation l.operations (further_of l.follow_ups) j (kept_at l.scene.stages.items j) ≡ None
      → (r : FurtherSight) × Contains l.list.items r × IsEndOf l.fn.team j (kept_at l.scene.stages.items j) r;
  more : (s : FurtherSight) → Contains l.initial.list.items s → Contains l.list.items s;
  once : AllPairs (λ x y. x ≢ y) l.initial.list.items → AllPairs (λ x y. x ≢ y) l.list.items;
  sound : (t : TypeTable) (state size : ℕ) → IsReached t state size l.operations (further_of l.follow_ups) l.fn.team 0 l.scene
      → All (IsSight t state size l.operations (further_of l.follow_ups)) l.initial.list.items
      → All (IsSight t state size l.operations (further_of l.follow_ups)) l.list.items;
}
