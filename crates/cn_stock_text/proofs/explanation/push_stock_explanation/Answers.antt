use Rattle.std.proofs.Common.{All}
use Rattle.cn_joins.specs.Joins.{IsJoin}
use Rattle.cn_stock_text.proofs.Claims.{bound_few, claim_known, joins_known, some_viewed}
use Rattle.cn_stock_text.proofs.explanation.push_stock_explanation.Goals as goal

pub push_least-requires : goal.push_least-requires
push_least-requires c =
    let is = c.args.certificate.now in
    rw c.claim_of.ensures (claim_known c.choice_by_teams.ensures c.args.table.now is.least is.at_least is.at_most c.requires.in_range c.requires.least)

pub push_most-requires-clause-few : goal.push_most-requires-clause-few
push_most-requires-clause-few c =
    let is = c.args.certificate.now in rw c.bounds_of-at_least.ensures.most (bound_few is.at_least is.at_most c.requires.in_range)

pub push_most-requires-clause-joins : goal.push_most-requires-clause-joins
push_most-requires-clause-joins c =
    let is = c.args.certificate.now in
    some_viewed _ (All (IsJoin c.args.table.now)) _ (rw c.joins_of.ensures (joins_known c.args.table.now is.most is.at_most c.requires.most))
