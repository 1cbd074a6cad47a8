use Rattle.std.proofs.Common.{◌≡◌, ◌++◌, drop}
use Rattle.cn_json.specs.Tokens.{list_rest}
use Rattle.cn_json.proofs.json_text.JsonText.values.Given as goal

-- the values that are left make up the rest of the array
abbrev pub invariant-loop-thing : goal.invariant-loop-thing
invariant-loop-thing g l =
    let json = g.T.JsonValue.json l.table in
    l.self ++ list_rest json (drop l.thing-index l.things) ≡ l.initial.self ++ list_rest json l.things
