use Rattle.std.proofs.Common.{◌∙◌, arith, sym, true≢false}
use Rattle.std.proofs.lemmas.Bool.{eqb-true}
use Rattle.cn_choice.specs.Canonical.{Choice}
use Rattle.cn_stock_check.proofs.WitnessLemmas.{by_words, counts_known, first_known, has_counts, more_alike, two_alike}
use Rattle.cn_stock_check.proofs.witness.are_told_apart.Goals as goal

pub notices_itself-noticed-requires-clause-operation : goal.notices_itself-noticed-requires-clause-operation
notices_itself-noticed-requires-clause-operation c =
    first_known c.args.table.now c.args.n (record { state = c.args.start.0; a = c.args.teams.now.a.now; b = c.args.teams.now.b.now }) c.requires.choice

pub returns-then-n-eq2 : goal.returns-then-n-eq2
returns-then-n-eq2 c =
    two_alike c.args.table.now c.args.n (record { state = c.args.start.0; a = c.args.teams.now.a.now; b = c.args.teams.now.b.now }) c.requires.choice (omega arith) (c.have_common.ensures.0 c.if-have_common.true)
    c.notices_itself-noticed.result c.notices_itself-noticed.ensures

pub returns-else-n-eq2 : goal.returns-else-n-eq2
returns-else-n-eq2 c =
    let m = more_alike c.args.table.now c.args.n (record { state = c.args.start.0; a = c.args.teams.now.a.now; b = c.args.teams.now.b.now }) c.requires.choice c.if-n-eq2.false
    (c.have_common.ensures.0 c.if-have_common.true) in
    ((λ y. absurd (c.if-n-eq2.false (eqb-true c.args.n 2 y))), (λ w. absurd (true≢false (sym (m.1 w)))))

pub teams_meet-requires-clause-counts : goal.teams_meet-requires-clause-counts
teams_meet-requires-clause-counts c =
    let ch : Choice = record { state = c.args.start.0; a = c.args.teams.now.a.now; b = c.args.teams.now.b.now } in
    counts_known c.args.table.now c.args.n ch c.counts_of-counts.result c.requires.choice
    (has_counts c.args.table.now c.args.n ch c.counts_of-counts.result c.requires.choice c.requires.operations c.counts_of-counts.ensures.counts c.counts_of-counts.ensures.others)

pub returns : goal.returns
returns c =
    let ch : Choice = record { state = c.args.start.0; a = c.args.teams.now.a.now; b = c.args.teams.now.b.now } in
    by_words c.args.table.now c.args.n ch c.requires.choice c.counts_of-counts.result
    (has_counts c.args.table.now c.args.n ch c.counts_of-counts.result c.requires.choice c.requires.operations c.counts_of-counts.ensures.counts c.counts_of-counts.ensures.others)
    (λ h. true≢false (sym (c.have_common.ensures.1 h) ∙ c.if-have_common.false)) c.in_ok-meet.meet c.in_ok-meet.ensures
