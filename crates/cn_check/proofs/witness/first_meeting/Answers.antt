use Rattle.std.proofs.Common.{arith, below_more, length-append, sym, true≢false}
use Rattle.cn_choice.specs.Canonical.{raw_choice_of}
use Rattle.cn_check.proofs.OutcomeSetLemmas.{sets_meet, witness_from}
use Rattle.cn_check.proofs.witness.first_meeting.Goals as goal

pub returns-then-meets-clause-meets : goal.returns-then-meets-clause-meets
returns-then-meets-clause-meets c =
    (sets_meet c.args.table.now (raw_choice_of c.args.choice.now) c.loop-process.process _ _ c.outcome_sets-after_a.ensures c.outcome_sets-after_b.ensures).0 (c.meets.ensures.0 c.if-meets.true)

pub loop-process-preserved : goal.loop-process-preserved
loop-process-preserved c =
    let same = sets_meet c.args.table.now (raw_choice_of c.args.choice.now) c.loop-process.process _ _ c.outcome_sets-after_a.ensures c.outcome_sets-after_b.ensures in
    below_more _ _ c.loop-process.invariant (λ meet. true≢false (rw c.if-meets.false at (sym (c.meets.ensures.1 (same.1 meet)))))

pub returns-clause-none : goal.returns-clause-none
returns-clause-none c =
    let n = length-append c.args.choice.now.a c.args.choice.now.b in
    witness_from c.process_of_pair.ensures c.args.table.now (raw_choice_of c.args.choice.now) (λ j l. c.loop-process.invariant j (omega (arith, l, n, c.processes-process-end.ensures)))
