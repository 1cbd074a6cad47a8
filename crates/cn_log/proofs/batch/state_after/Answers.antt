use Rattle.std.proofs.Common.{◌<◌, length, sym, ap, ◌∙◌, subst}
use Rattle.cn_table.specs.TypeTable.{transition}
use Rattle.cn_table.specs.Run.{state_after}
use Rattle.cn_log.specs.Log.{operations_of}
use Rattle.cn_log.specs.Batches.{members}
use Rattle.cn_log.proofs.ListLemmas.NextMembers.{next_some, next_none, run_push}
use Rattle.cn_log.proofs.batch.state_after.Goals.{in-Some, in_default}
use Rattle.cn_log.proofs.batch.state_after.Goals as goal

pub loop-p-preserved : goal.loop-p-preserved
loop-p-preserved c =
    let i = c.loop-p.invariant in
    let done = members c.loop-p.p 0 c.args.batch.now in
    let t = c.args.object.now in
    elim c.match-of.branch [
      | in-Some w ↦ (
          let e = w.in-Some.call in
          let n = next_some c.loop-p.p c.args.batch.now e (sym c.of.ensures ∙ w.in-Some.is) in
          record {
            state = ap (λ s. s.0) w.state-is ∙ ap (λ x. x.1) w.apply.ensures.value ∙ ap (λ s. (transition t e.operation.0 s).1) i.state ∙ sym (run_push t c.args.start.0 done e)
                ∙ ap (λ l. state_after t c.args.start.0 (operations_of l)) (sym n);
            known = subst (λ s. s.0 < length t.states) (sym w.state-is) w.apply.ensures.next;
          }
          )
      | in_default w ↦ (
          let n = next_none c.loop-p.p c.args.batch.now (sym c.of.ensures ∙ w.in_default.is) in
          record {
            state = ap (λ s. s.0) w.state-is ∙ i.state ∙ ap (λ l. state_after t c.args.start.0 (operations_of l)) (sym n);
            known = subst (λ s. s.0 < length t.states) (sym w.state-is) i.known;
          }
          )
    ]
