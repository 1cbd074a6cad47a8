use Rattle.std.proofs.Common.{◌≡◌, ◌<◌, ◌++◌, drop, length}
use Rattle.cn_log.specs.Linearized.{entry_slots}
use Rattle.cn_log.specs.Log.{entries}
use Rattle.cn_log.specs.Opening.{setting}
use Rattle.cn_json.specs.Log.{entries_list}
use Rattle.cn_json.specs.Tokens.{values_rest}
use Rattle.cn_json.proofs.log.write_each_entry.Given as goal

-- the entries that are left make up the array
abbrev pub invariant-loop-place : goal.invariant-loop-place
invariant-loop-place l = record {
  state : l.state.0 < length l.object.states;
  left : l.out ++ values_rest (entries_list l.object l.state.0 (drop l.place (entries (setting l.core) l.core.schedule)) (drop l.place (entry_slots (setting l.core) l.core.schedule)))
      ≡ l.initial.out ++ values_rest (entries_list l.object l.fn.start.0 (entries (setting l.core) l.core.schedule) (entry_slots (setting l.core) l.core.schedule));
}
