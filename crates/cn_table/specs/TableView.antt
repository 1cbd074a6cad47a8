-- A table in memory, as the type table of the definitions.
use Rattle.std.specs.Prelude.{List, map, string_bytes, Vec}
use Rattle.std.specs.declared.alloc.Global.{Global}
use Rattle.cn_table.specs.TypeTable.{TypeTable, Row}
use Rattle.cn_table.specs.DraftView.{texts_view}
use Rattle.cn_table.specs.declared.table.Transitions.{Transitions}
use Rattle.cn_table.specs.declared.table.Table.TheInside.{Inside}

abbrev pub transitions_view : Transitions → Row
transitions_view r =
    record { name = string_bytes r.name; response = r.response.items; next = r.next.items }

abbrev pub transitions_views : Vec Transitions Global → List Row
transitions_views v = map transitions_view v.items

abbrev pub table_view : Inside → TypeTable
table_view t = record {
  name = string_bytes t.name;
  states = texts_view t.states;
  responses = texts_view t.responses;
  operations = transitions_views t.operations;
}
