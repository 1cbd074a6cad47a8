use Rattle.std.proofs.Common.{◌≡◌, ◌++◌, drop}
use Rattle.cn_json.specs.Tokens.{each_member}
use Rattle.cn_json.proofs.json_text.JsonText.members.Given as goal

-- the members that are left make up the rest
abbrev pub invariant-loop-name : goal.invariant-loop-name
invariant-loop-name l = l.self ++ each_member (drop l.name-index l.members) ≡ l.initial.self ++ each_member l.members
