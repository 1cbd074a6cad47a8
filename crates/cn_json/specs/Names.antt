-- Names of a table as JSON values.
use Rattle.serde_json.specs.Data.{Data}
use Rattle.cn_table.specs.Names.{name_at}
use Rattle.cn_table.specs.TypeTable.{TypeTable, operation_names}
use Rattle.cn_table.specs.declared.elements.Operation.{Operation}
use Rattle.cn_table.specs.declared.elements.Response.{Response}
use Rattle.cn_table.specs.declared.elements.State.{State}
use Rattle.cn_json.specs.Values.{text_data}

abbrev pub state_data : TypeTable → State → Data
state_data t q = text_data (name_at t.states q.0)

abbrev pub response_data : TypeTable → Response → Data
response_data t r = text_data (name_at t.responses r.0)

abbrev pub operation_data : TypeTable → Operation → Data
operation_data t o = text_data (name_at (operation_names t) o.0)
