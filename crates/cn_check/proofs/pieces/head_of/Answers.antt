use Rattle.cn_check.proofs.PieceLemmas.{head_spelled, rest_fits}
use Rattle.cn_check.specs.EntryTexts.{head_text}
use Rattle.cn_check.proofs.pieces.head_of.Goals as goal

pub front_of-requires : goal.front_of-requires
front_of-requires c =
    rest_fits c.args.bytes.now (head_text c.args.state.0 c.args.a.now) _
    (head_spelled c.args.state.0 c.args.a.now c.args.bytes.now _ _ _ _ _ c.in_ok-first.ensures c.in_ok-after_state.ensures.text c.in_ok-second.ensures c.in_ok-after_a.ensures.text
    c.in_ok-rest.ensures)

pub returns-clause-text : goal.returns-clause-text
returns-clause-text c =
    c.front_of.ensures (head_text c.args.state.0 c.args.a.now)
    (head_spelled c.args.state.0 c.args.a.now c.args.bytes.now _ _ _ _ _ c.in_ok-first.ensures c.in_ok-after_state.ensures.text c.in_ok-second.ensures c.in_ok-after_a.ensures.text
    c.in_ok-rest.ensures)
