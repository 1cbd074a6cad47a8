use Rattle.std.proofs.Common.{◌≡◌, ◌++◌, drop, map}
use Rattle.cn_flaws.specs.Flaws.{flaw_view}
use Rattle.cn_json.specs.Flaws.{flaw_data}
use Rattle.cn_json.specs.Tokens.{list_rest}
use Rattle.cn_json.proofs.flaws.write_each_flaw.Given as goal

-- the flaws that are left make up the array
abbrev pub invariant-loop-flaw : goal.invariant-loop-flaw
invariant-loop-flaw l = l.out ++ list_rest flaw_data (map flaw_view (drop l.flaw-index l.flaws)) ≡ l.initial.out ++ list_rest flaw_data (map flaw_view l.flaws)
