use Rattle.std.proofs.Common.{◌≢◌, ℕ, All, Contains, take}
use Rattle.std.specs.Prelude.{AllPairs}
use Rattle.cn_table.specs.TypeTable.{TypeTable}
use Rattle.cn_further.specs.FurtherNodes.{further_of}
use Rattle.cn_further.specs.FurtherSights.{HasEndsOf, IsReached, IsSight}
use Rattle.cn_further.specs.declared.sight.FurtherSight.{FurtherSight}
use Rattle.cn_further.proofs.sights.push_all_ends.Given as goal

-- so it is of the scenes so far
abbrev pub invariant-loop-scene : goal.invariant-loop-scene
invariant-loop-scene l = record {
  ends : All (HasEndsOf l.operations (further_of l.follow_ups) l.fn.team l.list.items) (take l.scene-index l.scenes);
  more : (s : FurtherSight) → Contains l.initial.list.items s → Contains l.list.items s;
  once : AllPairs (λ x y. x ≢ y) l.initial.list.items → AllPairs (λ x y. x ≢ y) l.list.items;
  sound : (t : TypeTable) (state size : ℕ) → All (IsReached t state size l.operations (further_of l.follow_ups) l.fn.team 0) l.scenes
      → All (IsSight t state size l.operations (further_of l.follow_ups)) l.initial.list.items
      → All (IsSight t state size l.operations (further_of l.follow_ups)) l.list.items;
}
