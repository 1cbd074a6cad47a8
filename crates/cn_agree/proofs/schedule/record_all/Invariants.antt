use Rattle.std.proofs.Common.{◌≡◌, ◌++◌, drop}
use Rattle.cn_agree.specs.Actions.{AreOfTable, records_from}
use Rattle.cn_agree.proofs.Running.{HasRun}
use Rattle.cn_agree.proofs.schedule.record_all.Given as goal

abbrev pub invariant-loop-p : goal.invariant-loop-p
invariant-loop-p l = record {
  run : HasRun l.plan l.fn.round l.schedule l.p-index l.round;
  records : l.records.items ++ records_from l.plan (drop l.p-index l.schedule) l.round ≡ records_from l.plan l.schedule l.fn.round;
  table : AreOfTable l.plan.table l.records.items;
}
