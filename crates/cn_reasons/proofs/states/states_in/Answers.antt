use Rattle.cn_reasons.proofs.StateLemmas.{all_known_states, states_of_members}
use Rattle.cn_reasons.proofs.states.states_in.Goals as goal

pub returns-clause-states : goal.returns-clause-states
returns-clause-states c =
    states_of_members c.args.set c.loop-state.states.items _ c.iter-state-items.result c.in-None.ensures.steps.0 c.loop-state.invariant.all
    c.iter-state-items.ensures.list c.iter-state-items.ensures.same

pub returns-clause-known : goal.returns-clause-known
returns-clause-known c =
    let are =
    states_of_members c.args.set c.loop-state.states.items _ c.iter-state-items.result c.in-None.ensures.steps.0 c.loop-state.invariant.all
    c.iter-state-items.ensures.list c.iter-state-items.ensures.same in
    all_known_states c.args.table.now c.loop-state.states.items (λ q at. c.requires q ((are.listed q).0 at))
