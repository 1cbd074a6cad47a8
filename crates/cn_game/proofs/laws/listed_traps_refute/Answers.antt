use Rattle.cn_game.proofs.Listed.{listed_refutes}
use Rattle.cn_game.proofs.laws.listed_traps_refute.Goals as goal

pub returns : goal.returns
returns c t n trap is = listed_refutes t n trap is (c.canonical_choices_are_enough.ensures t n)
    (λ d known h. c.defended_choices_are_witnesses.ensures.witness t d
    (c.defended_choices_are_witnesses.ensures.unread t n d known h)) (c.witnesses_are_live.ensures t n)
    (λ d h. (c.live_list.ensures.listed t n d).1 h)
