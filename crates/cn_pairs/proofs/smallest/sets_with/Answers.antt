use Rattle.std.proofs.Common.{◌≡◌, ◌∙◌, ℕ, List, ap, arith, length, map, subst, sym, take}
use Rattle.std.specs.Prelude.{Vec}
use Rattle.std.specs.declared.alloc.Global.{Global}
use Rattle.std.proofs.lemmas.List.{length-map, take_all}
use Rattle.cn_table.specs.declared.elements.Operation.{Operation}
use Rattle.cn_pairs.specs.SetNumbers.{numbers, set_lists, set_of}
use Rattle.cn_pairs.specs.declared.restricted.SetNumber.{SetNumber}
use Rattle.cn_pairs.proofs.FirstSets.{no_room, one_found, other_number, pushed_set, with_number}
use Rattle.cn_pairs.proofs.smallest.sets_with.Goals as goal
use Rattle.cn_pairs.proofs.smallest.sets_with.Goals.{then-len-lt-MOST_SETS+then-is_same+in_ok-from_slice+in_ok-push, else-len-lt-MOST_SETS, else-len-lt-MOST_SETS-via-then-len-lt-MOST_SETS+else-is_same, else-len-lt-MOST_SETS-via-else-len-lt-MOST_SETS}

pub loop-set-preserved : goal.loop-set-preserved
loop-set-preserved c =
    let all : List SetNumber = c.args.sets.now in
    let i : ℕ = c.loop-set.set-index in
    let s : SetNumber = c.set-item.result in
    let so_far : List (List ℕ) = map set_of (take 12 (with_number c.args.number (take i all))) in
    let long : length so_far ≡ length c.loop-set.found.items =
    sym (ap length c.loop-set.invariant) ∙ length-map c.loop-set.found.items (λ (x : Vec Operation Global). numbers x.items) in
    elim c.if-len-lt-MOST_SETS.branch [
      | then-len-lt-MOST_SETS+then-is_same+in_ok-from_slice+in_ok-push w ↦
          pushed_set c.loop-set.found.items c.if-len-lt-MOST_SETS.found.items w.in_ok-from_slice.field-0 so_far s.operations.items
          (ap (λ v. v.items) w.found-is ∙ w.in_ok-push.ensures.items) c.loop-set.invariant (w.in_ok-from_slice.ensures.items ∙ w.as_slice.ensures.value)
          ∙ sym (one_found c.args.number all i s c.loop-set-test.true c.set-item.is
          (omega (arith, long, w.if-len-lt-MOST_SETS.true, c.len.ensures, c.loop-set.found.ok.0)) (sym w.is_same.ensures ∙ w.if-is_same.true))
      | else-len-lt-MOST_SETS w ↦ ap (λ v. set_lists v) w.found-is ∙ (c.loop-set.invariant ∙ elim w.else-len-lt-MOST_SETS.branch [
        | else-len-lt-MOST_SETS-via-then-len-lt-MOST_SETS+else-is_same u ↦
            sym (other_number c.args.number all i s c.loop-set-test.true c.set-item.is (sym u.is_same.ensures ∙ u.if-is_same.false))
        | else-len-lt-MOST_SETS-via-else-len-lt-MOST_SETS u ↦
            sym (no_room c.args.number all i s c.loop-set-test.true c.set-item.is
            (omega (arith, long, u.if-len-lt-MOST_SETS.false, c.len.ensures, c.loop-set.found.ok.0)))
      ])
    ]

pub returns : goal.returns
returns c =
    subst (λ (sets : List SetNumber). set_lists c.loop-set.found ≡ map set_of (take 12 (with_number c.args.number sets)))
    (take_all c.loop-set.set-index c.args.sets.now c.loop-set-test.false) c.loop-set.invariant
