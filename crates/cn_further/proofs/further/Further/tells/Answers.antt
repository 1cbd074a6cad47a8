use Rattle.std.proofs.Common.{ℕ, sym, subst, true≢false, ◌∙◌}
use Rattle.cn_choice.specs.Canonical.{IsChoiceFor}
use Rattle.cn_further.proofs.further.Further.tells.Goals as goal

pub is_shown-requires-clause-choice : goal.is_shown-requires-clause-choice
is_shown-requires-clause-choice c =
    let choice = c.args.self.now.choice in
    let h = (c.choice_by_teams.ensures c.args.table.now c.args.n choice).0 (c.is_for.ensures.0 c.if-not-is_for.false) in
    subst (λ (m : ℕ). IsChoiceFor c.args.table.now m choice) (sym h.all) h

pub returns-then-not-is_for : goal.returns-then-not-is_for
returns-then-not-is_for c = (
  λ f. absurd (true≢false (sym f)),
  λ tells. absurd (true≢false (sym (c.is_for.ensures.1 ((c.choice_by_teams.ensures c.args.table.now c.args.n c.args.self.now.choice).1 tells.choice)) ∙ c.if-not-is_for.true)),
)

pub returns-then-not-are_of : goal.returns-then-not-are_of
returns-then-not-are_of c = (
  λ f. absurd (true≢false (sym f)),
  λ tells. absurd (true≢false (sym (c.are_of.ensures.1 (rw c.as_slice-follow_ups.ensures.value tells.known.further)) ∙ c.if-not-are_of.true)),
)
