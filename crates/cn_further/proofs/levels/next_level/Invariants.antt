use Rattle.std.proofs.Common.{◌+◌, ℕ, All, take}
use Rattle.cn_choice.specs.declared.team.Team.{Team}
use Rattle.cn_further.specs.FurtherNodes.{further_of}
use Rattle.cn_further.specs.FurtherSights.{IsReached, LeadsTo}
use Rattle.cn_further.proofs.levels.next_level.Given as goal

-- so it is of the scenes so far
abbrev pub invariant-loop-scene : goal.invariant-loop-scene
invariant-loop-scene l = record {
  next : All (LeadsTo l.table l.operations (further_of l.follow_ups) l.scenes.items) (take l.scene-index l.level);
  reached : (state size count : ℕ) (team : Team)
      → All (IsReached l.table state size l.operations (further_of l.follow_ups) team count) l.level
      → All (IsReached l.table state size l.operations (further_of l.follow_ups) team (count + 1)) l.scenes.items;
}
