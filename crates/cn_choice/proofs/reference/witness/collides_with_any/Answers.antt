use Rattle.std.proofs.Common.{true≢false, sym}
use Rattle.std.proofs.lemmas.List.{take_all}
use Rattle.std.proofs.lemmas.List.Elements.{All-more}
use Rattle.cn_choice.specs.Meeting.{Collide}
use Rattle.cn_choice.proofs.reference.witness.collides_with_any.Goals as goal

pub loop-beta-preserved : goal.loop-beta-preserved
loop-beta-preserved c =
    All-more (λ beta. ¬ Collide c.args.table.now c.args.choice.now c.args.alpha.now beta.items) c.args.orders.now c.loop-beta.beta-index c.beta-item.result c.loop-beta-test.true c.loop-beta.invariant
    (λ h. true≢false (sym (c.if-collide.ensures.1 (rw (c.as_slice.ensures.value, c.beta-item.is) h))))

pub returns : goal.returns
returns c =
    let none = rw (take_all c.loop-beta.beta-index c.args.orders.now c.loop-beta-test.false) at c.loop-beta.invariant in
    (λ f. absurd (true≢false (sym f)), λ a. absurd (none a.0 a.1 a.2 (rw a.3 a.4)))
