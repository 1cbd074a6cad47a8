use Rattle.std.proofs.Common.{◌≡◌, map, take}
use Rattle.serde_json.specs.View.{view}
use Rattle.cn_stock_cert.proofs.part.array_of.Given as goal

-- the values of the parts so far
abbrev pub invariant-loop-part : goal.invariant-loop-part
invariant-loop-part g l =
    map view l.values.items ≡ map g.T.Part.json (take l.part-index l.parts)
