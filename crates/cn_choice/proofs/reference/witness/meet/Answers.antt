use Rattle.std.proofs.Common.{below_more, ℕ, ◌<◌, ap, arith, length, true≢false, sym}
use Rattle.cn_choice.proofs.OrderLemmas.Walks.{pair_takes_part}
use Rattle.cn_choice.proofs.reference.witness.meet.Goals as goal

pub loop-process-preserved : goal.loop-process-preserved
loop-process-preserved c = below_more _ _ c.loop-process.invariant (λ pair e f. true≢false (sym (c.if-sees_the_same.ensures.1 (pair, e, f))))

pub returns : goal.returns
returns c =
    let seen = ap (λ a. length a.operations) c.choice.view_is in
    let below : (j : ℕ) → j < length c.args.choice.now.operations → j < c.loop-process.process = λ j l. omega (arith, seen, c.len-process-end.ensures.value, c.loop-process-test.false) in (
      λ f. absurd (true≢false (sym f)),
      λ m. absurd (c.loop-process.invariant m.0
          (below m.0 (pair_takes_part c.args.table.now c.args.choice.now (length c.args.choice.now.operations) c.args.alpha.now m.0 m.1 c.requires.alpha_known m.2)) m.1 m.2 m.3),
    )
