use Rattle.std.proofs.Common.{ℕ, List, ◌≡◌, length, ap, sym, ◌∙◌, true≢false}
use Rattle.cn_outcomes.proofs.Unions.{nothing_beyond}
use Rattle.cn_outcomes.proofs.outcome_sets.OutcomeSet.has.Goals as goal

pub returns-then-state-ge-MOST_STATES-clause-found : goal.returns-then-state-ge-MOST_STATES-clause-found
returns-then-state-ge-MOST_STATES-clause-found c =
    let long : length c.args.self.now ≡ 16 = ap (λ (xs : List ℕ). length xs) (sym c.self.view_is) ∙ c.self.invariant in
    (λ f. absurd (true≢false (sym f)), λ h. absurd (nothing_beyond c.args.self.now 16 c.args.state.0 c.args.response.0 long c.if-state-ge-MOST_STATES.true h))
