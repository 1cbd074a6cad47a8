use Rattle.std.proofs.Common.{◌≡◌, ◌+◌, ◌∙◌, arith, below_more, ap, length, refl, sym, true≢false}
use Rattle.cn_choice.specs.Canonical.{Choice, raw_choice_of}
use Rattle.cn_proto.proofs.JudgedLists.{AreOutcomeSets-push, apart_from, first_meeting, pairs_exact, witness_from}
use Rattle.cn_proto.proofs.judgement.all_judged_pairs.Goals as goal

pub returns-then-meets-clause-judged_pairs : goal.returns-then-meets-clause-judged_pairs
returns-then-meets-clause-judged_pairs c = first_meeting _ _ _ _ _ c.outcomes-from_a.ensures c.outcomes-from_b.ensures (c.if-meets.ensures.0 refl) c.loop-process.invariant.apart

pub loop-process-preserved : goal.loop-process-preserved
loop-process-preserved c =
    let exact =
    pairs_exact c.args.table.now
    (raw_choice_of c.args.choice.now) c.loop-process.process _ _ _ _ c.states-states.ensures.table c.requires.fits.state_known c.states-states.ensures.number
    c.responses-responses.ensures.number c.outcomes-from_a.ensures
    c.in_ok-of.ensures in
    record {
      listed = rw c.in_ok-push.ensures.items (AreOutcomeSets-push _ _ _ _ _ c.loop-process.invariant.listed exact c.in_ok-of.ensures.in_order);
      apart = below_more _ _ c.loop-process.invariant.apart (apart_from _ _ _ _ _ c.outcomes-from_a.ensures c.outcomes-from_b.ensures (λ common. true≢false (sym (c.if-meets.ensures.1 common))));
    }

pub returns-clause-judged_pairs : goal.returns-clause-judged_pairs
returns-clause-judged_pairs c =
    let a : c.len.result ≡ length c.args.choice.now.a = c.len.ensures.value ∙ ap (λ (c : Choice). length c.a) c.choice.view_is in
    let b : c.len-2.result ≡ length c.args.choice.now.b = c.len-2.ensures.value ∙ ap (λ (c : Choice). length c.b) c.choice.view_is in
    let last : c.loop-process.process ≡ length c.args.choice.now.a + length c.args.choice.now.b = omega (arith, a, b, c.loop-process-test.false, c.loop-process.auto.process-end) in (
      witness_from c.args.table.now (raw_choice_of c.args.choice.now) c.process_of_pair.ensures (λ i l. c.loop-process.invariant.apart i (omega (arith, l, last, c.requires.fits.one_operation_each))),
      rw (← last) c.loop-process.invariant.listed,
    )
