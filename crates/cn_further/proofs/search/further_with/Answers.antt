use Rattle.std.proofs.Common.{ℕ, sym, subst}
use Rattle.cn_choice.specs.Canonical.{IsChoiceFor}
use Rattle.cn_further.proofs.search.further_with.Goals as goal

pub follow_ups_for-requires-clause-choice : goal.follow_ups_for-requires-clause-choice
follow_ups_for-requires-clause-choice c =
    let h = (c.choice_by_teams.ensures c.args.table.now c.args.n c.args.choice).0 (c.is_for.ensures.0 c.if-not-is_for.false) in
    subst (λ (m : ℕ). IsChoiceFor c.args.table.now m c.args.choice) (sym h.all) h
