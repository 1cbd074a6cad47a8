-- Operations that last as a JSON value, with the states that each leaves.
use Rattle.std.specs.Prelude.{codes}
use Rattle.serde_json.specs.Data.{Data, object, member, no_members}
use Rattle.cn_table.specs.TypeTable.{TypeTable}
use Rattle.cn_reasons.specs.declared.lasting.LastingWitness.{LastingWitness}
use Rattle.cn_json.specs.Names.{operation_data, state_data}
use Rattle.cn_json.specs.Values.{list_data}

-- the operations and the start state, with the states that the single operation first, and the
-- other first, lead to
unfoldable pub lasting_data : TypeTable → LastingWitness → Data
lasting_data t l =
    object (member (codes "many") (operation_data t l.lasting.many)
    (member (codes "many_states") (list_data (state_data t) l.many_states.items)
    (member (codes "single") (operation_data t l.lasting.single)
    (member (codes "single_states") (list_data (state_data t) l.single_states.items)
    (member (codes "start") (state_data t l.lasting.start) no_members)))))
