use Rattle.std.proofs.Common.{◌≡◌, ◌++◌, drop}
use Rattle.cn_json.specs.Choices.{of_processes}
use Rattle.cn_json.specs.Tokens.{each_value}
use Rattle.cn_json.proofs.json_text.JsonText.processes.Given as goal

-- the values that are left make up the rest
abbrev pub invariant-loop-thing : goal.invariant-loop-thing
invariant-loop-thing g l =
    let values = of_processes g.T.OfProcesses.count (g.T.JsonValue.json l.table) in
    l.self ++ each_value (values (drop l.thing-index l.things)) ≡ l.initial.self ++ each_value (values l.things)
