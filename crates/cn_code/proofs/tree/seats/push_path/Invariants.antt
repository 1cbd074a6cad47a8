use Rattle.std.proofs.Common.{◌≡◌}
use Rattle.std.specs.Prelude.{All, fold}
use Rattle.std.specs.List.{range_with_len}
use Rattle.cn_code.specs.TreeJudgements.{IsSeat, with_place}
use Rattle.cn_code.proofs.tree.seats.push_path.Given as goal

-- the judges with the places so far
abbrev pub invariant-loop-place : goal.invariant-loop-place
invariant-loop-place l = record {
  judges : l.judges.items ≡ fold (with_place l.plan l.process) l.initial.judges.items (range_with_len 0 l.place);
  seats : All (IsSeat l.plan) l.judges.items;
}
