use Rattle.std.proofs.Common.{true≢false, sym}
use Rattle.std.specs.Prelude.{Any}
use Rattle.std.proofs.lemmas.List.{take_all}
use Rattle.std.proofs.lemmas.List.Elements.{All-more}
use Rattle.cn_choice.specs.Meeting.{Collide}
use Rattle.cn_choice.proofs.reference.witness.any_collide.Goals as goal

pub loop-alpha-preserved : goal.loop-alpha-preserved
loop-alpha-preserved c =
    All-more (λ alpha. ¬ Any (λ beta. Collide c.args.table.now c.args.choice.now alpha.items beta.items) c.args.orders.now) c.args.orders.now c.loop-alpha.alpha-index
    c.alpha-item.result c.loop-alpha-test.true c.loop-alpha.invariant
    (λ h. true≢false (sym (c.if-collides_with_any.ensures.1 (rw (c.as_slice.ensures.value, c.alpha-item.is) h))))

pub returns : goal.returns
returns c =
    let none = rw (take_all c.loop-alpha.alpha-index c.args.orders.now c.loop-alpha-test.false) at c.loop-alpha.invariant in
    (λ f. absurd (true≢false (sym f)), λ a. absurd (none a.0 a.1 a.2 (rw a.3 a.4)))
