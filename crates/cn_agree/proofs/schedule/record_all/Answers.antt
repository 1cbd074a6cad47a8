use Rattle.std.proofs.Common.{◌<◌, ℕ, IfSome, get_or, refl}
use Rattle.std.proofs.lemmas.List.Elements.{All-from_recursion, All-push}
use Rattle.cn_proto.specs.Plan.{processes_of}
use Rattle.cn_agree.specs.Actions.{IsOfTable}
use Rattle.cn_agree.specs.declared.next_action.StepRecord.{StepRecord}
use Rattle.cn_agree.proofs.Running.{one_more_run}
use Rattle.cn_agree.proofs.Telling.{one_more_record}
use Rattle.cn_agree.proofs.schedule.record_all.Goals as goal

pub next_action-action-requires-clause-process : goal.next_action-action-requires-clause-process
next_action-action-requires-clause-process c =
    All-from_recursion (λ p. p < processes_of c.args.plan.now) c.args.schedule.now c.requires.schedule c.loop-p.p-index 0 c.loop-p-test.true

pub next_action-action-requires-clause-begun : goal.next_action-action-requires-clause-begun
next_action-action-requires-clause-begun c = c.loop-p.invariant.run.begun (get_or c.args.schedule.now c.loop-p.p-index 0) (next_action-action-requires-clause-process c)

pub take_turn-requires-clause-process : goal.take_turn-requires-clause-process
take_turn-requires-clause-process c =
    All-from_recursion (λ p. p < processes_of c.args.plan.now) c.args.schedule.now c.requires.schedule c.loop-p.p-index 0 c.loop-p-test.true

pub loop-p-preserved : goal.loop-p-preserved
loop-p-preserved c =
    let p = get_or c.args.schedule.now c.loop-p.p-index 0 in
    let told : StepRecord ℕ = record { process = p; action = c.next_action-action.result } in
    record {
      run = one_more_run c.args.plan.now c.args.round.now c.args.schedule.now c.loop-p.p-index p c.loop-p.round c.take_turn.new.round c.loop-p-test.true c.requires.schedule refl
          c.loop-p.invariant.run c.take_turn.ensures.world;
      records = one_more_record c.args.plan.now c.args.schedule.now c.loop-p.p-index p c.loop-p.records.items c.push.new.self.items _ c.next_action-action.result c.loop-p.round c.take_turn.new.round
          c.loop-p-test.true refl c.loop-p.invariant.records c.next_action-action.ensures.action c.in_ok-push.ensures.items c.take_turn.ensures.world;
      table = rw c.in_ok-push.ensures.items
          (All-push (λ (r : StepRecord ℕ). IfSome r.action (IsOfTable c.args.plan.now.table)) c.loop-p.records.items told c.loop-p.invariant.table c.next_action-action.ensures.table);
    }
