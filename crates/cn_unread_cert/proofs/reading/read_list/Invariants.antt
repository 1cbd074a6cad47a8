use Rattle.std.proofs.Common.{◌≡◌, ◌≤◌, length, map, take, drop}
use Rattle.std.specs.List.{list_all}
use Rattle.serde_json.specs.View.{view}
use Rattle.cn_choice.specs.declared.limits.TheConstants.{MOST_PROCESSES}
use Rattle.cn_unread_cert.specs.Kinds.{byte_limits}
use Rattle.cn_unread_cert.proofs.reading.read_list.Given as goal

-- the parts are those of the values so far, and these are of the kind
abbrev pub invariant-loop-item : goal.invariant-loop-item
invariant-loop-item g l = record {
  same : map g.T.Part.json l.parts.items ≡ map view (take l.item-index l.list);
  long : length l.parts.items ≡ l.item-index;
  few : length l.list ≤ MOST_PROCESSES;
  told : list_all (g.T.Kind.kind byte_limits) (map view (drop l.item-index l.list)) ≡ list_all (g.T.Kind.kind byte_limits) (map view l.list);
}
