use Rattle.std.proofs.Common.{ℕ, ◌≡◌, ◌⊎◌, ◌↔◌, sym, ap, ◌∙◌, true≢false, subst}
use Rattle.std.specs.Prelude.{IsBitSet}
use Rattle.cn_choice.specs.RawChoices.{RawChoice}
use Rattle.cn_outcomes.proofs.LastProcess.{zero_has_none}
use Rattle.cn_outcomes.proofs.Unions.{found_first, found_nothing}
use Rattle.cn_outcomes.proofs.subset_rows.found_states.Goals as goal

pub returns-then-is_in-clause-same : goal.returns-then-is_in-clause-same
returns-then-is_in-clause-same c =
    let setting = c.args.setting.now in
    let start : c.choice.inside.state.0 ≡ setting.choice.now.state = ap (λ (a : RawChoice). a.state) c.choice.view_is in
    found_first setting.table.now setting.choice.now setting.team c.args.process c.args.rest (c.is_empty.ensures.number.0 c.if-is_empty.true) (c.is_in.ensures.0 c.if-is_in.true) c.with.result
    (subst (λ (n : ℕ). (q : ℕ) → IsBitSet c.with.result q ↔ (IsBitSet n q ⊎ (q ≡ setting.choice.now.state))) c.new.ensures.number
    (subst (λ (s : ℕ). (q : ℕ) → IsBitSet c.with.result q ↔ (IsBitSet c.new.result q ⊎ (q ≡ s))) start c.with.ensures))
    zero_has_none

pub returns-else-is_in-clause-same : goal.returns-else-is_in-clause-same
returns-else-is_in-clause-same c q =
    let setting = c.args.setting.now in (
      λ s. absurd (c.new-else-is_in.ensures.none q s),
      λ f. absurd (found_nothing setting.table.now setting.choice.now setting.team c.args.process c.args.rest (c.is_empty.ensures.number.0 c.if-is_empty.true)
          (λ m. true≢false (sym (c.is_in.ensures.1 m) ∙ c.if-is_in.false)) q f),
    )
