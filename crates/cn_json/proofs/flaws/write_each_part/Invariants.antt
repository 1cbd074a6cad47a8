use Rattle.std.proofs.Common.{◌≡◌, ◌++◌, drop, map}
use Rattle.cn_flaws.specs.FlawPath.{part_view}
use Rattle.cn_json.specs.Flaws.{part_data}
use Rattle.cn_json.specs.Tokens.{list_rest}
use Rattle.cn_json.proofs.flaws.write_each_part.Given as goal

-- the parts that are left make up the array
abbrev pub invariant-loop-part : goal.invariant-loop-part
invariant-loop-part l = l.out ++ list_rest part_data (map part_view (drop l.part-index l.path)) ≡ l.initial.out ++ list_rest part_data (map part_view l.path)
