use Rattle.std.proofs.Common.{◌∙◌, All, Contains, refl, subst, sym, true≢false}
use Rattle.std.proofs.lemmas.List.{take_all}
use Rattle.std.proofs.lemmas.List.Elements.{All-more}
use Rattle.cn_stock_check.proofs.lasting.are_apart.Goals as goal

pub returns-then-not-is_outside : goal.returns-then-not-is_outside
returns-then-not-is_outside c = (
  λ f. absurd (true≢false (sym f)),
  λ all. absurd (true≢false (sym (c.is_outside.ensures.1 (all c.loop-state.state-index 0 c.loop-state-test.true)) ∙ c.if-not-is_outside.true)),
)

pub loop-state-preserved : goal.loop-state-preserved
loop-state-preserved c =
    All-more (λ q. ¬ Contains c.args.these.now q × ¬ Contains c.args.those.now q) c.args.states.now c.loop-state.state-index 0 c.loop-state-test.true c.loop-state.invariant
    (c.is_outside.ensures.0 c.if-not-is_outside.false)

pub returns : goal.returns
returns c = (
  λ f. subst (All (λ q. ¬ Contains c.args.these.now q × ¬ Contains c.args.those.now q)) (take_all c.loop-state.state-index c.args.states.now c.loop-state-test.false) c.loop-state.invariant,
  λ all. refl,
)
