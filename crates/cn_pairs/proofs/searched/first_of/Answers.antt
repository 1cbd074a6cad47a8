use Rattle.std.proofs.Common.{◌∙◌, ◌↔◌, ◌≤◌, ◌<◌, ◌+◌, ◌++◌, ◌∷◌, ◌≡◌, [], ℕ, IsTrue, List, ap, arith, length, map, refl, subst, sym, take, true≢false}
use Rattle.std.specs.Prelude.{Vec}
use Rattle.std.specs.declared.alloc.Global.{Global}
use Rattle.std.proofs.lemmas.List.{length-map}
use Rattle.cn_table.specs.declared.elements.Operation.{Operation}
use Rattle.cn_pairs.specs.Firsts.{AreFirstWith}
use Rattle.cn_pairs.specs.SetNumbers.{numbers, set_lists}
use Rattle.cn_pairs.specs.Smallest.{HasNumberWith}
use Rattle.cn_pairs.proofs.FirstSets.{next_has, next_other, no_more_room, pushed_set}
use Rattle.cn_pairs.proofs.searched.first_of.Goals as goal
use Rattle.cn_pairs.proofs.searched.first_of.Goals.{then-has+in_ok-from_slice+in_ok-push, else-has}

pub returns-then-len-ge-MOST_SETS : goal.returns-then-len-ge-MOST_SETS
returns-then-len-ge-MOST_SETS g c =
    let full : 12 ≤ length (set_lists c.loop-set.found) =
    omega (arith, length-map c.loop-set.found.items (λ (x : Vec Operation Global). numbers x.items), c.if-len-ge-MOST_SETS.true, c.len.ensures, c.loop-set.found.ok.0) in
    no_more_room c.args.table.now c.args.number c.args.sets.now c.loop-set.set-index (set_lists c.loop-set.found) c.loop-set.invariant full

pub loop-set-preserved : goal.loop-set-preserved
loop-set-preserved g c =
    let set : Vec Operation Global = c.set-item.result in
    let so_far : List (List ℕ) = set_lists c.loop-set.found in
    let lists : List (List ℕ) = map (λ set. numbers set.items) (take (c.loop-set.set-index + 1) c.args.sets.now) in
    let tells : IsTrue c.in_ok-has.has ↔ HasNumberWith c.args.table.now c.args.number (numbers set.items) =
    subst (λ (operations : List Operation). IsTrue c.in_ok-has.has ↔ HasNumberWith c.args.table.now c.args.number (numbers operations))
    c.as_slice.ensures.value c.in_ok-has.ensures in
    let room : length so_far < 12 =
    omega (arith, length-map c.loop-set.found.items (λ (x : Vec Operation Global). numbers x.items), c.if-len-ge-MOST_SETS.false, c.len.ensures, c.loop-set.found.ok.0) in
    elim c.if-has.branch [
      | then-has+in_ok-from_slice+in_ok-push w ↦
          (let pushed : set_lists c.if-has.found ≡ so_far ++ numbers set.items ∷ [] =
          pushed_set c.loop-set.found.items c.if-has.found.items w.in_ok-from_slice.field-0 so_far set.items
          (ap (λ v. v.items) w.found-is ∙ w.in_ok-push.ensures.items) refl (w.in_ok-from_slice.ensures.items ∙ w.as_slice-then-has.ensures.value) in
          subst (AreFirstWith (HasNumberWith c.args.table.now c.args.number) 12 lists) (sym pushed)
          (next_has c.args.table.now c.args.number c.args.sets.now c.loop-set.set-index so_far c.loop-set.invariant set c.loop-set-test.true c.set-item.is
          (tells.0 w.if-has.true) room))
      | else-has w ↦
          subst (λ (found : Vec (Vec Operation Global) Global). AreFirstWith (HasNumberWith c.args.table.now c.args.number) 12 lists (set_lists found)) (sym w.found-is)
          (next_other c.args.table.now c.args.number c.args.sets.now c.loop-set.set-index so_far c.loop-set.invariant set c.loop-set-test.true c.set-item.is
          (λ has. absurd (true≢false (sym (tells.1 has) ∙ w.if-has.false))))
    ]
