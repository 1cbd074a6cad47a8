use Rattle.cn_tree_plans.proofs.ShownLemmas.{fits_table, outcome_known, role_inside, shows_seen}
use Rattle.cn_tree_plans.proofs.shown.shown_by.Goals as goal

pub outcomes-set-requires-clause-fits : goal.outcomes-set-requires-clause-fits
outcomes-set-requires-clause-fits c =
    rw c.turned-choice.ensures (fits_table c.args.table.now c.args.meeting.now c.requires.meeting c.args.low c.args.high c.requires.team.0 c.requires.team.1 c.requires.others)

pub outcomes-set-requires-clause-process : goal.outcomes-set-requires-clause-process
outcomes-set-requires-clause-process c =
    rw (c.turned-choice.ensures, c.role_of.ensures)
    (role_inside c.args.table.now c.args.meeting.now c.requires.meeting c.args.low c.args.high c.requires.team.0 c.requires.team.1 c.requires.others c.args.k c.requires.k)

pub seen_by-requires-clause-known : goal.seen_by-requires-clause-known
seen_by-requires-clause-known c = λ r q h.
    let same = rw (c.turned-choice.ensures, c.role_of.ensures) at c.outcomes-set.ensures in
    outcome_known c.args.table.now c.args.meeting.now c.requires.meeting c.args.low c.args.high c.requires.team.0 c.requires.team.1 c.requires.others c.args.k r q ((same r q).0 h)

pub returns : goal.returns
returns c =
    let same = rw (c.turned-choice.ensures, c.role_of.ensures) at c.outcomes-set.ensures in
    shows_seen c.args.table.now c.args.meeting.now c.args.low c.args.high c.args.k c.sight.result c.outcomes-set.result c.seen_by.result c.sight.ensures same c.seen_by.ensures
