use Rattle.std.proofs.Common.{◌≡◌, ◌++◌, replicate}
use Rattle.cn_json.specs.Tokens.{each_value}
use Rattle.cn_json.proofs.json_text.JsonText.copies.Given as goal

-- so many values stand there
abbrev pub invariant-loop-i : goal.invariant-loop-i
invariant-loop-i g l = l.self ≡ l.initial.self ++ each_value (replicate l._i (g.T.JsonValue.json l.table l.thing))
