use Rattle.std.proofs.Common.{◌≡◌, ◌↔◌, ◌++◌, ◌∙◌, ℕ, List, Contains, ap, append-nil, subst, sym}
use Rattle.std.specs.Prelude.{IsBitSet}
use Rattle.cn_stock_find.proofs.lasting.list_of.Goals as goal

pub returns : goal.returns
returns c q =
    let items = c.loop-state.list.items in
    let whole : items ≡ c.iter-state-items.result = sym (append-nil items)
    ∙ (ap (λ (left : List ℕ). items ++ left) (sym c.in-None.ensures.steps.0) ∙ (c.loop-state.invariant.all ∙ sym c.iter-state-items.ensures.list)) in
    subst (λ (l : List ℕ). Contains l q ↔ IsBitSet c.args.set q) (sym whole) (c.iter-state-items.ensures.same q)
