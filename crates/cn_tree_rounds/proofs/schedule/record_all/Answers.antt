use Rattle.std.proofs.Common.{IfSome, List, get_or, length, map, ℕ, ◌≡◌, ◌∙◌, ap, arith, take_all}
use Rattle.std.specs.List.{range_with_len}
use Rattle.std.proofs.lemmas.List.Elements.{All-push}
use Rattle.cn_trees.specs.Steps.{after_schedule}
use Rattle.cn_tree_plans.specs.Plan.{tree_of}
use Rattle.cn_tree_rounds.specs.Actions.{IsOfTable, record_at}
use Rattle.cn_tree_rounds.specs.Worlds.{world_of}
use Rattle.cn_tree_rounds.specs.declared.action.StepRecord.{StepRecord}
use Rattle.cn_tree_rounds.proofs.Schedules.{one_more_record, one_more_step}
use Rattle.cn_tree_rounds.proofs.schedule.record_all.Goals as goal

pub loop-process-preserved : goal.loop-process-preserved
loop-process-preserved c =
    let told : StepRecord = record { process = get_or c.args.schedule.now c.loop-process.process-index 0; action = c.next_action.result } in
    record {
      of_plan = c.step.ensures.of_plan;
      run = one_more_step (tree_of c.args.plan.now) c.args.schedule.now c.loop-process.process-index (world_of c.args.plan.now c.args.world.now) (world_of c.args.plan.now c.loop-process.world)
          (world_of c.args.plan.now c.step.new.self) c.loop-process-test.true c.step.ensures.world c.loop-process.invariant.run;
      records = one_more_record (tree_of c.args.plan.now) c.args.schedule.now c.loop-process.process-index c.loop-process.records.items c.push.new.self.items c.next_action.result
          (world_of c.args.plan.now c.args.world.now) (world_of c.args.plan.now c.loop-process.world) c.next_action.ensures.action c.loop-process.invariant.run c.in_ok-push.ensures.items
          c.loop-process.invariant.records;
      table = rw c.in_ok-push.ensures.items
          (All-push (λ (r : StepRecord). IfSome r.action (IsOfTable c.args.plan.now.table)) c.loop-process.records.items told c.loop-process.invariant.table c.next_action.ensures.table);
    }

pub returns-clause-records : goal.returns-clause-records
returns-clause-records c =
    let all : c.loop-process.process-index ≡ length c.args.schedule.now = omega (arith, c.loop-process-test.false, c.loop-process.auto.process-index-end) in
    c.loop-process.invariant.records
    ∙ ap (λ (n : ℕ). map (record_at (tree_of c.args.plan.now) c.args.schedule.now (world_of c.args.plan.now c.args.world.now)) (range_with_len 0 n)) all

pub returns-clause-world : goal.returns-clause-world
returns-clause-world c =
    c.loop-process.invariant.run
    ∙ ap (λ (s : List ℕ). after_schedule (tree_of c.args.plan.now) s (world_of c.args.plan.now c.args.world.now)) (take_all c.loop-process.process-index c.args.schedule.now c.loop-process-test.false)
