use Rattle.std.proofs.Common.{◌≡◌, map, take, drop}
use Rattle.std.specs.List.{list_all}
use Rattle.serde_json.specs.View.{view}
use Rattle.cn_stock_cert.specs.Kinds.{greatest}
use Rattle.cn_stock_cert.proofs.reading.read_array.Given as goal

-- the parts are those of the values so far, and these are of the kind
abbrev pub invariant-loop-item : goal.invariant-loop-item
invariant-loop-item g l = record {
  same : map g.T.Part.json l.parts.items ≡ map view (take l.item-index l.list);
  told : list_all (g.T.Kind.kind greatest) (map view (drop l.item-index l.list)) ≡ list_all (g.T.Kind.kind greatest) (map view l.list);
}
