-- Why the number of a type without reads is what it is, as a JSON value.
use Rattle.std.specs.Prelude.{Bool, true, false, Option, None, codes}
use Rattle.serde_json.specs.Data.{Data, boolean, member, no_members, null, object}
use Rattle.cn_table.specs.TypeTable.{TypeTable}
use Rattle.cn_interference.specs.declared.rules.Rule.{Rule}
use Rattle.cn_unread_number.specs.declared.telling.Telling.{Telling}
use Rattle.cn_unread_number.specs.declared.telling.Telling.TheVariants.{Looks, Responses}
use Rattle.cn_unread_reasons.specs.declared.explanation.MostReason.{MostReason}
use Rattle.cn_unread_reasons.specs.declared.explanation.MostReason.TheVariants.{EachNumber, Open}
use Rattle.cn_unread_reasons.specs.declared.explanation.MostReason.TheVariants.{Trap, WithReads}
use Rattle.cn_unread_reasons.specs.declared.explanation.UnreadExplanation.{UnreadExplanation}
use Rattle.cn_unread_reasons.specs.declared.merged.MergedState.{MergedState}
use Rattle.cn_unread_reasons.specs.declared.play.Play.{Play}
use Rattle.cn_unread_reasons.specs.declared.play.PlayEnd.{PlayEnd}
use Rattle.cn_unread_reasons.specs.declared.trap.PlayedTrap.{PlayedTrap}
use Rattle.cn_json.specs.Choices.{processes_data}
use Rattle.cn_json.specs.Collisions.{step_data}
use Rattle.cn_json.specs.Explanation.{rule_data}
use Rattle.cn_json.specs.Names.{state_data}
use Rattle.cn_json.specs.Numbers.{bounds_data}
use Rattle.cn_json.specs.UnreadWitness.{signs_data, unread_witness_data}
use Rattle.cn_json.specs.Values.{list_data, number_data, option_data, text_data}

-- a state of the given table, and the state of the other one that stands for it
abbrev pub merged_data : TypeTable → TypeTable → MergedState → Data
merged_data given t m =
    object (member (codes "class") (state_data t m.class)
    (member (codes "state") (state_data given m.state) no_members))

-- the process that gets the same in both runs
abbrev pub end_data : PlayEnd → Data
end_data e = number_data e.process

-- a choice, and two runs that one of its processes cannot tell apart: in the first a process of team
-- A is first, and in the second one of team B
unfoldable pub play_data : TypeTable → Play → Data
play_data t p =
    object (member (codes "a_first") (list_data (step_data t) p.a_first.items)
    (member (codes "b_first") (list_data (step_data t) p.b_first.items)
    (member (codes "process") (option_data end_data p.end)
    (member (codes "processes") (processes_data t p.choice)
    (member (codes "start") (state_data t p.choice.start) no_members)))))

-- the choices that are told, the number of all, the positions of the trap, and for how many
-- processes they are
abbrev pub trap_data : TypeTable → PlayedTrap → Data
trap_data t p =
    object (member (codes "choices") (list_data (play_data t) p.plays.items)
    (member (codes "count") (number_data p.count)
    (member (codes "positions") (number_data p.positions)
    (member (codes "processes") (number_data p.processes) no_members))))

-- the choices that are refuted, if these are why the number is not more
abbrev pub reason_data : TypeTable → MostReason → Data
reason_data t Open = null
reason_data t EachNumber = null
reason_data t (WithReads rule) = null
reason_data t (Trap p) = trap_data t p

-- the rule that bounds the number with reads, if that is why the number is not more
abbrev pub rule_of : MostReason → Option Rule
rule_of Open = None
rule_of EachNumber = None
rule_of (WithReads rule) = rule
rule_of (Trap p) = None

-- whether the number with reads is why the number is not more
abbrev pub is_with_reads : MostReason → Bool
is_with_reads Open = false
is_with_reads EachNumber = false
is_with_reads (WithReads rule) = true
is_with_reads (Trap p) = false

-- how the type tells its states
abbrev pub telling_data : Telling → Data
telling_data Responses = text_data (codes "responses")
telling_data Looks = text_data (codes "looks")

-- all that an explanation tells
unfoldable pub unread_explanation_data : UnreadExplanation → Data
unread_explanation_data e =
    object (member (codes "merged") (list_data (merged_data e.given e.table) e.merged.items)
    (member (codes "name") (text_data e.table.name)
    (member (codes "refuted") (reason_data e.table e.most)
    (member (codes "rule") (option_data rule_data (rule_of e.most))
    (member (codes "signs") (option_data (signs_data e.table) e.signs)
    (member (codes "telling") (option_data telling_data e.telling)
    (member (codes "with_reads") (boolean (is_with_reads e.most))
    (member (codes "without_read") (bounds_data e.bounds)
    (member (codes "witness") (option_data (unread_witness_data e.table) e.witness)
    no_members)))))))))
