-- The rules by which the operations of a type alone bound its number.
use Rattle.std.specs.Prelude.{◌≡◌, ℕ, ◌<◌, List, codes, length, Option, Some, None}
use Rattle.cn_table.specs.TypeTable.{TypeTable}
use Rattle.cn_interference.specs.Interference.{AllHide, AllInterfere, NoneAnswers}
use Rattle.cn_interference.specs.declared.rules.Rule.{Rule}
use Rattle.cn_interference.specs.declared.rules.Rule.TheVariants.{InterferenceWithoutAnswers, HiddenOperations, TwoStates, Interference}

-- the rule applies to the type
abbrev pub Applies : TypeTable → Rule → Type 0
Applies t InterferenceWithoutAnswers = AllInterfere t × NoneAnswers t
Applies t HiddenOperations = AllHide t
Applies t TwoStates = length t.states ≡ 2
Applies t Interference = AllInterfere t

-- the greatest number of a type to which the rule applies
abbrev pub most_by : Rule → ℕ
most_by InterferenceWithoutAnswers = 1
most_by HiddenOperations = 1
most_by TwoStates = 2
most_by Interference = 2

-- the place of the rule among the rules
abbrev pub rank : Rule → ℕ
rank InterferenceWithoutAnswers = 0
rank HiddenOperations = 1
rank TwoStates = 2
rank Interference = 3

-- it is the first rule that applies to the type, or none applies
abbrev pub IsRuleOf : TypeTable → Option Rule → Type 0
IsRuleOf t None = (rule : Rule) → ¬ Applies t rule
IsRuleOf t (Some rule) =
    Applies t rule × ((earlier : Rule) → rank earlier < rank rule → ¬ Applies t earlier)

-- the word for the rule
abbrev pub rule_name : Rule → List ℕ
rule_name InterferenceWithoutAnswers = codes "interference_without_answers"
rule_name HiddenOperations = codes "hidden_operations"
rule_name TwoStates = codes "two_states"
rule_name Interference = codes "interference"
