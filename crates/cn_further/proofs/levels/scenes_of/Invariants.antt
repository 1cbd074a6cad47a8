use Rattle.std.proofs.Common.{◌++◌, All}
use Rattle.cn_further.specs.FurtherNodes.{further_of}
use Rattle.cn_further.specs.FurtherSights.{HasFirsts, IsReached}
use Rattle.cn_further.specs.SceneLists.{LeadsOn}
use Rattle.cn_further.proofs.levels.scenes_of.Given as goal

-- the levels so far, and the next one
abbrev pub invariant-loop-done : goal.invariant-loop-done
invariant-loop-done l = record {
  firsts : HasFirsts l.table l.fn.state.0 l.size l.operations (further_of l.follow_ups) l.fn.team (l.scenes.items ++ l.level.items);
  closed : All (LeadsOn l.table l.operations (further_of l.follow_ups) (l.scenes.items ++ l.level.items)) l.scenes.items;
  reached : All (IsReached l.table l.fn.state.0 l.size l.operations (further_of l.follow_ups) l.fn.team 0) l.scenes.items;
  level : All (IsReached l.table l.fn.state.0 l.size l.operations (further_of l.follow_ups) l.fn.team l._done) l.level.items;
}
