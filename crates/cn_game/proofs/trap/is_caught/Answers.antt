use Rattle.std.proofs.Common.{below_more, ap, arith, length, true≢false, sym, refl}
use Rattle.cn_game.proofs.trap.is_caught.Goals as goal

pub loop-a-preserved : goal.loop-a-preserved
loop-a-preserved c = below_more _ _ c.loop-a.invariant (λ p. true≢false (sym (c.if-is_caught_first.ensures.1 p)))

pub returns-then-is_caught_first : goal.returns-then-is_caught_first
returns-then-is_caught_first c =
    let seen = ap (λ a. length a.operations) c.choice.view_is in
    let p = c.is_caught_first.ensures.0 c.if-is_caught_first.true in
    (λ _. (c.loop-a.a, p.1.0, omega (arith, seen, c.len-a-end.ensures.value, c.loop-a-test.true), p.1.1, p.0, p.1.2, p.1.3), λ _. refl)

pub returns : goal.returns
returns c =
    let seen = ap (λ a. length a.operations) c.choice.view_is in
    (λ f. absurd (true≢false (sym f)), λ m. absurd (c.loop-a.invariant m.0 (omega (arith, seen, c.len-a-end.ensures.value, c.loop-a-test.false, m.2)) (m.4, (m.1, m.3, m.5, m.6))))
