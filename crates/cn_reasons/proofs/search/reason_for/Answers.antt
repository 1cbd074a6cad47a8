use Rattle.cn_reasons.proofs.search.reason_for.Goals as goal

pub common_state-requires-clause-least : goal.common_state-requires-clause-least
common_state-requires-clause-least c q l both =
    c.in-Some.ensures.least.below q l ((c.left_states-from_a.ensures q).1 both.0) ((c.left_states-from_b.ensures q).1 both.1)

pub way_back-requires-clause-apart : goal.way_back-requires-clause-apart
way_back-requires-clause-apart c q both =
    c.in-None.ensures.none q ((c.left_states-from_a.ensures q).1 both.0) ((c.left_states-from_b.ensures q).1 both.1)
