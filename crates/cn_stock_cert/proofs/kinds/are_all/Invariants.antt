use Rattle.std.proofs.Common.{◌≡◌, map, drop}
use Rattle.std.specs.List.{list_all}
use Rattle.serde_json.specs.View.{view}
use Rattle.cn_stock_cert.proofs.kinds.are_all.Given as goal

-- those so far are of the kind
abbrev pub invariant-loop-value : goal.invariant-loop-value
invariant-loop-value g l = list_all (g.K.Kind.kind l.most) (map view (drop l.value-index l.values)) ≡ list_all (g.K.Kind.kind l.most) (map view l.values)
