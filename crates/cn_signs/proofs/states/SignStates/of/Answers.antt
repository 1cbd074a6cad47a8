use Rattle.cn_signs.proofs.Walks.{states_for}
use Rattle.cn_signs.proofs.states.SignStates.of.Goals as goal

pub returns-clause-states : goal.returns-clause-states
returns-clause-states c =
    states_for c.args.table.now c.args.choice.now c.as_slice-further.result.now c.as_slice-further.ensures.value c.only-start.result c.image-after_single.result c.image-after_many.result
    c.image-then_single.result _ c.only-start.ensures.same c.image-after_single.ensures.same c.image-after_many.ensures.same c.image-then_single.ensures.same
    c.closure-single_first.ensures.same c.closure-many_first.ensures.same c.closure-single_later.ensures.same
