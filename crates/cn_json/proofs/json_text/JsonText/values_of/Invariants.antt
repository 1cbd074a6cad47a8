use Rattle.std.proofs.Common.{◌≡◌, ◌++◌, length}
use Rattle.std.specs.Prelude.{reverse, All}
use Rattle.cn_json.specs.Tokens.{list_rest}
use Rattle.cn_json.proofs.json_text.JsonText.values_of.Given as goal

-- the things that are left, last first, make up the rest of the array
abbrev pub invariant-loop-thing : goal.invariant-loop-thing
invariant-loop-thing g l =
    let json = g.T.JsonValue.json l.table in
    record {
      known : All (g.T.JsonValue.IsKnown l.table) (reverse l.things.items);
      told : l.self ++ list_rest json (reverse l.things.items) ≡ l.initial.self ++ list_rest json l.fn.things.items;
    }

abbrev pub decreases-loop-thing : goal.decreases-loop-thing
decreases-loop-thing g l = length l.things.items
