use Rattle.std.proofs.Common.{◌∙◌, ap, sym, Bool}
use Rattle.cn_choice.specs.LiveLeft.{live_after, live_from}
use Rattle.cn_choice.proofs.ChoiceLemmas.BlockWalk.{stopped_at}
use Rattle.cn_choice.proofs.block_choices.BlockChoices.current.Goals as goal

pub returns-then-self-clause-some : goal.returns-then-self-clause-some
returns-then-self-clause-some c =
    let t = c.self.inside.table.now in
    let d = c.self.inside.choice in
    (live_after t d, sym c.self.view_is ∙ (ap (λ (left : Bool). live_from t left d) c.if-self.true ∙ stopped_at t d (c.self.invariant.2 c.if-self.true)))
