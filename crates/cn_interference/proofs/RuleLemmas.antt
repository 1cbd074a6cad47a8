-- What the rules say of the number.
use Rattle.std.proofs.Common.{◌≡◌, ℕ, ◌<◌, Option, Some, None, MatchOption, arith, refl}
use Rattle.cn_table.specs.TypeTable.{IsTypeTable, TypeTable}
use Rattle.cn_choice.specs.Discerning.{IsDiscerning}
use Rattle.cn_interference.specs.Rules.{most_by, Applies, IsRuleOf}
use Rattle.cn_interference.specs.declared.rules.Rule.{Rule}
use Rattle.cn_interference.specs.declared.rules.Rule.TheVariants.{InterferenceWithoutAnswers, HiddenOperations, TwoStates, Interference}
use Rattle.cn_interference.proofs.ThirdProcess.{all_hide, not_for_three, not_for_two, two_states}
use Rattle.cn_interference.proofs.TwoProcesses.{all_hide_if_none}

pub not_above : (t : TypeTable) (rule : Rule) → IsTypeTable t → Applies t rule → (n : ℕ) → most_by rule < n → ¬ IsDiscerning t n
not_above t InterferenceWithoutAnswers table applies n more = not_for_two t (all_hide t table applies.0 applies.1) n (omega (arith, more))
not_above t HiddenOperations table applies n more = not_for_two t applies n (omega (arith, more))
not_above t TwoStates table applies n more = not_for_three t (two_states t table applies) n (omega (arith, more))
not_above t Interference table applies n more = not_for_three t applies n (omega (arith, more))

-- the first rule that applies to a type that is not 2-discerning says 1
pub one_by_rule : (t : TypeTable) (rule : Option Rule) → IsRuleOf t rule → ¬ IsDiscerning t 2 → MatchOption rule ⊥ (λ r. most_by r ≡ 1)
one_by_rule t None none not_two = none HiddenOperations (all_hide_if_none t not_two)
one_by_rule t (Some InterferenceWithoutAnswers) first not_two = refl
one_by_rule t (Some HiddenOperations) first not_two = refl
one_by_rule t (Some TwoStates) first not_two = absurd (first.1 HiddenOperations (omega arith) (all_hide_if_none t not_two))
one_by_rule t (Some Interference) first not_two = absurd (first.1 HiddenOperations (omega arith) (all_hide_if_none t not_two))
