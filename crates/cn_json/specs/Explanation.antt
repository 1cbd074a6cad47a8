-- Why the number of a type is what it is, as a JSON value.
use Rattle.std.specs.Prelude.{ℕ, List, [], ◌∷◌, Option, Some, None, codes}
use Rattle.serde_json.specs.Data.{Data, object, member, no_members}
use Rattle.cn_table.specs.TypeTable.{TypeTable}
use Rattle.cn_interference.specs.Rules.{rule_name}
use Rattle.cn_interference.specs.declared.pairs.OperationPair.{OperationPair}
use Rattle.cn_interference.specs.declared.rules.Rule.{Rule}
use Rattle.cn_reasons.specs.declared.explanation.Explanation.{Explanation}
use Rattle.cn_reasons.specs.declared.refutation.Refutation.{Refutation}
use Rattle.cn_reasons.specs.declared.way.Way.{Way}
use Rattle.cn_sentences.specs.declared.shortest.ShortestCost.{ShortestCost}
use Rattle.cn_json.specs.Collisions.{collision_data}
use Rattle.cn_json.specs.Lasting.{lasting_data}
use Rattle.cn_json.specs.Names.{operation_data}
use Rattle.cn_json.specs.Numbers.{type_number_data}
use Rattle.cn_json.specs.Values.{list_data, number_data, option_data, text_data}
use Rattle.cn_json.specs.Witness.{witness_data}

-- a pair of operations, by their names
abbrev pub apart_data : TypeTable → OperationPair → Data
apart_data t pair = list_data (operation_data t) (pair.first ∷ pair.second ∷ [])

-- the word of the rule by which the operations alone bound the number
abbrev pub rule_data : Rule → Data
rule_data rule = text_data (rule_name rule)

-- the ways that are told, and how many are not: none if nothing is refuted
abbrev pub ways_told : Option (Refutation Way) → List Way
ways_told None = []
ways_told (Some r) = r.ways.items

abbrev pub ways_left : Option (Refutation Way) → ℕ
ways_left None = 0
ways_left (Some r) = r.more

-- what the shortest plan costs
abbrev pub shortest_data : ShortestCost → Data
shortest_data c =
    object (member (codes "objects") (number_data c.objects)
    (member (codes "processes") (number_data c.processes)
    (member (codes "steps") (number_data c.steps) no_members)))

-- all that an explanation tells, and how short protocols get
unfoldable pub explanation_data : Explanation → Option ShortestCost → Data
explanation_data e shortest =
    object (member (codes "apart") (list_data (apart_data e.table) e.apart.items)
    (member (codes "collisions")
    (list_data (collision_data e.table) (ways_told e.refutation))
    (member (codes "lasting") (option_data (lasting_data e.table) e.lasting)
    (member (codes "limit") (number_data e.limit)
    (member (codes "more") (number_data (ways_left e.refutation))
    (member (codes "name") (text_data e.table.name)
    (member (codes "number") (type_number_data e.number)
    (member (codes "rule") (option_data rule_data e.rule)
    (member (codes "shortest") (option_data shortest_data shortest)
    (member (codes "version") (number_data e.version)
    (member (codes "witness") (option_data (witness_data e.table) e.witness)
    no_members)))))))))))
