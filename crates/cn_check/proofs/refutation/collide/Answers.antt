use Rattle.cn_choice.specs.Canonical.{raw_choice_of}
use Rattle.cn_check.proofs.CollisionLemmas.{collision_shown}
use Rattle.cn_check.proofs.refutation.collide.Goals as goal

pub returns : goal.returns
returns c =
    let shown =
    collision_shown c.args.table.now (raw_choice_of (record { state = c.args.state.0; a = c.args.teams.0.now; b = c.args.teams.1.now })) c.args.process c.args.alpha.now c.args.beta.now
    c.shown_pair-of_alpha.result c.shown_pair-of_beta.result c.shown_pair-of_alpha.ensures.pair c.shown_pair-of_beta.ensures.pair in
    (λ h. shown.0 (c.are_one_pair.ensures.0 h), λ k. c.are_one_pair.ensures.1 (shown.1 k))
