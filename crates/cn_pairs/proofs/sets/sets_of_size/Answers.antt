use Rattle.std.proofs.Common.{◌≡◌, ◌∙◌, ◌++◌, ◌-◌, [], ℕ, List, ap, map, subst}
use Rattle.std.specs.Prelude.{Vec}
use Rattle.std.specs.List.{range_with_len}
use Rattle.std.specs.declared.alloc.Global.{Global}
use Rattle.cn_table.specs.declared.elements.Operation.{Operation}
use Rattle.cn_pairs.specs.SetNumbers.{numbers, set_lists}
use Rattle.cn_pairs.specs.Sublists.{sublists}
use Rattle.cn_pairs.proofs.SetLists.{all_sets}
use Rattle.cn_pairs.proofs.sets.sets_of_size.Goals as goal

pub returns : goal.returns
returns c =
    let new : List (List ℕ) = set_lists c.push_sets.new.sets in
    let all : List (List ℕ) = sublists c.args.size (range_with_len 0 (c.operations.result - 0)) in
    let front : numbers c.as_slice.result.now ≡ [] = ap numbers (c.as_slice.ensures.value ∙ c.new-none.ensures.items) in
    let before : set_lists c.new-sets.result ≡ [] = ap (map (λ (set : Vec Operation Global). numbers set.items)) c.new-sets.ensures.items in
    all_sets c.args.table.now c.args.size c.operations.result new c.operations.ensures.number
    (subst (λ (xs : List ℕ). new ≡ map (λ rest. xs ++ rest) all) front
    (subst (λ (ls : List (List ℕ)). new ≡ ls ++ map (λ rest. numbers c.as_slice.result.now ++ rest) all) before c.in_ok-push_sets.ensures))
