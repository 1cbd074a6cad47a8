use Rattle.std.proofs.Common.{◌≡◌, ◌∙◌, ◌++◌, ◌∷◌, [], ◌+◌, ◌-◌, ◌<◌, ◌≤◌, ℕ, List, ap, arith, map, subst, sym}
use Rattle.std.specs.Prelude.{OnOk}
use Rattle.std.specs.List.{range_with_len}
use Rattle.std.proofs.lemmas.List.{map-append}
use Rattle.cn_table.specs.declared.elements.Operation.{Operation}
use Rattle.cn_table.proofs.Lists.{two_parts}
use Rattle.cn_pairs.specs.SetNumbers.{numbers, set_lists}
use Rattle.cn_pairs.specs.Sublists.{sublists}
use Rattle.cn_pairs.proofs.SetLists.{first_or_not}
use Rattle.cn_pairs.proofs.sets.+push_sets.Goals as goal

pub returns : goal.returns
returns t c =
    let chosen : List ℕ = numbers c.args.chosen.now in
    let later : List ℕ = range_with_len (c.args.from + 1) (c.args.end - (c.args.from + 1)) in
    let own : Operation = record { 0 = c.args.from } in
    let longer : numbers c.as_slice.result.now ≡ chosen ++ c.args.from ∷ [] =
    ap numbers (c.as_slice.ensures.value ∙ (c.in_ok-push-2.ensures.items ∙ ap (λ (os : List Operation). os ++ own ∷ []) c.in_ok-longer.ensures.items))
    ∙ map-append (λ (o : Operation). o.0) c.args.chosen.now (own ∷ []) in
    let some : 1 ≤ c.args.more = omega arith in
    let within : c.args.from < c.args.end = omega arith in
    let first : set_lists c.push_sets.new.sets ≡ set_lists c.args.sets.now ++ map (λ rest. (chosen ++ c.args.from ∷ []) ++ rest) (sublists (c.args.more - 1) later) =
    subst (λ (front : List ℕ). set_lists c.push_sets.new.sets ≡ set_lists c.args.sets.now ++ map (λ rest. front ++ rest) (sublists (c.args.more - 1) later))
    longer c.in_ok-push_sets.ensures in
    subst (λ (ls : List (List ℕ)). OnOk c.push_sets-2.result (set_lists c.push_sets-2.new.sets ≡ set_lists c.args.sets.now ++ ls))
    (sym (first_or_not chosen c.args.from c.args.end c.args.more some within))
    (two_parts c.push_sets-2.result (set_lists c.args.sets.now) (set_lists c.push_sets.new.sets) (set_lists c.push_sets-2.new.sets)
    (map (λ rest. (chosen ++ c.args.from ∷ []) ++ rest) (sublists (c.args.more - 1) later)) (map (λ rest. chosen ++ rest) (sublists c.args.more later))
    first c.push_sets-2.ensures)
