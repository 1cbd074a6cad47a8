use Rattle.std.proofs.Common.{refl}
use Rattle.cn_choice.specs.declared.team.Team.TheVariants.{A, B}
use Rattle.cn_unread_reasons.proofs.FurtherTold.{told_sights}
use Rattle.cn_unread_reasons.proofs.further_views.view_of.Goals as goal

pub returns-clause-view : goal.returns-clause-view
returns-clause-view c t d fs are = record {
  group = refl;
  a_first = told_sights t d fs c.args.sights.now A c.args.group.first c.in_ok-a_first.a_first.items are c.in_ok-a_first.ensures.same c.in_ok-a_first.ensures.once;
  b_first = told_sights t d fs c.args.sights.now B c.args.group.first c.in_ok-b_first.b_first.items are c.in_ok-b_first.ensures.same c.in_ok-b_first.ensures.once;
}
