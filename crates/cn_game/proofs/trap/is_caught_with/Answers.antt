use Rattle.std.proofs.Common.{below_more, ap, arith, length, true≢false, sym}
use Rattle.cn_game.proofs.trap.is_caught_with.Goals as goal

pub loop-b-preserved : goal.loop-b-preserved
loop-b-preserved c = below_more _ _ c.loop-b.invariant (λ p. true≢false (sym (c.if-is_caught_pair.ensures.1 p)))

pub returns : goal.returns
returns c =
    let seen = ap (λ a. length a.operations) c.choice.view_is in
    (λ f. absurd (true≢false (sym f)), λ m. absurd (c.loop-b.invariant m.0 (omega (arith, seen, c.len-b-end.ensures.value, c.loop-b-test.false, m.1)) (m.2, m.3)))
