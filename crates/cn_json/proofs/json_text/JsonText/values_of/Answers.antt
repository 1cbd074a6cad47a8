use Rattle.std.proofs.Common.{◌≡◌, ◌∙◌, ◌++◌, List, [], ◌∷◌, All, ap, append_assoc, subst, sym}
use Rattle.std.specs.Prelude.{reverse}
use Rattle.std.proofs.lemmas.List.{reverse-append}
use Rattle.std.proofs.lemmas.List.Elements.{All-rest}
use Rattle.json.specs.Token.{Token}
use Rattle.cn_json.specs.Tokens.{list_rest, value_tokens}
use Rattle.cn_json.proofs.json_text.JsonText.values_of.Goals as goal

pub loop-thing-preserved : goal.loop-thing-preserved
loop-thing-preserved g c =
    let json = g.T.JsonValue.json c.args.table.now in
    let known = g.T.JsonValue.IsKnown c.args.table.now in
    let thing = c.in-Some.thing in
    let before : List Token = c.loop-thing.self in
    let others = c.pop.new.self.items in
    let turned : reverse c.loop-thing.things.items ≡ thing ∷ reverse others = ap reverse c.in-Some.ensures.items ∙ reverse-append others (thing ∷ []) in
    let left : c.let_go.new.things.items ≡ others = c.let_go.ensures in
    record {
      known = subst (λ xs. All known (reverse xs)) (sym left) (All-rest known thing (reverse others) (reverse c.loop-thing.things.items) turned c.loop-thing.invariant.known);
      told =
          ap (λ xs. c.write.new.out ++ list_rest json (reverse xs)) left ∙ ap (λ ts. ts ++ list_rest json (reverse others)) c.in_ok-write.ensures.ok
          ∙ append_assoc before (value_tokens (json thing)) (list_rest json (reverse others)) ∙ ap (λ xs. before ++ list_rest json xs) (sym turned)
          ∙ c.loop-thing.invariant.told;
    }
