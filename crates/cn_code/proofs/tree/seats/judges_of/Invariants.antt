use Rattle.std.proofs.Common.{◌≡◌, []}
use Rattle.std.specs.Prelude.{All, fold}
use Rattle.std.specs.List.{range_with_len}
use Rattle.cn_code.specs.TreeJudgements.{IsSeat, with_path}
use Rattle.cn_code.proofs.tree.seats.judges_of.Given as goal

-- the judges of the processes so far
abbrev pub invariant-loop-process : goal.invariant-loop-process
invariant-loop-process l = record {
  judges : l.judges.items ≡ fold (with_path l.plan) [] (range_with_len 0 l.process);
  seats : All (IsSeat l.plan) l.judges.items;
}
