use Rattle.std.proofs.Common.{◌++◌, ◌∷◌, [], ◌+◌, ℕ, List, ap, arith, get_or, subst, sym, take, true≢false, ◌∙◌}
use Rattle.std.specs.declared.alloc.Global.{Global}
use Rattle.std.specs.declared.vec.Vec.{Vec}
use Rattle.std.proofs.lemmas.List.{take_all, take_more}
use Rattle.cn_stocks.proofs.Times.{times_of_place}
use Rattle.cn_join_find.proofs.WitnessLemmas.{AreDivided, more_a, more_b, none_divided, same_divided, witness_for}
use Rattle.cn_join_find.proofs.split.split_by.Goals as goal
use Rattle.cn_join_find.proofs.split.split_by.Goals.{then-contains+in_ok-push, else-contains+in_ok-push-2}

pub contains-requires : goal.contains-requires
contains-requires c =
    let stock = c.args.stock.now in
    let i = c.loop-operation.operation-index in
    omega (arith, c.requires.known (get_or stock i 0) (times_of_place stock i (omega (arith, c.loop-operation-test.true))), c.operations-operations.ensures.number, c.operations-operations.ensures.range.1)

pub loop-operation-init : goal.loop-operation-init
loop-operation-init c = none_divided c.args.set _ _ c.new-a.ensures.items c.new-b.ensures.items

pub loop-operation-preserved : goal.loop-operation-preserved
loop-operation-preserved c =
    let stock = c.args.stock.now in
    let i = c.loop-operation.operation-index in
    let x = get_or stock i 0 in
    let d = c.loop-operation.invariant in
    let set = c.args.set in
    let front = take i stock in
    let a = c.loop-operation.a.items in
    let b = c.loop-operation.b.items in
    let longer = take_more stock i 0 (omega (arith, c.loop-operation-test.true)) in
    elim c.if-contains.branch [
      | then-contains+in_ok-push w ↦
          same_divided set (front ++ x ∷ []) (take (i + 1) stock) (a ++ x ∷ []) c.if-contains.a.items b c.if-contains.b.items longer (ap (λ (v : Vec ℕ Global). v.items) w.a-is ∙ w.in_ok-push.ensures.items)
          (ap (λ (v : Vec ℕ Global). v.items) w.b-is) (more_a set front a b x d (c.contains.ensures.0 w.if-contains.true))
      | else-contains+in_ok-push-2 w ↦
          same_divided set (front ++ x ∷ []) (take (i + 1) stock) a c.if-contains.a.items (b ++ x ∷ []) c.if-contains.b.items longer (ap (λ (v : Vec ℕ Global). v.items) w.a-is)
          (ap (λ (v : Vec ℕ Global). v.items) w.b-is ∙ w.in_ok-push-2.ensures.items) (more_b set front a b x d (λ h. true≢false (sym (c.contains.ensures.1 h) ∙ w.if-contains.false)))
    ]

pub returns : goal.returns
returns c =
    let stock = c.args.stock.now in
    let whole = take_all c.loop-operation.operation-index stock (omega (arith, c.loop-operation-test.false)) in
    let d = subst (λ (l : List ℕ). AreDivided c.args.set l c.loop-operation.a.items c.loop-operation.b.items) whole c.loop-operation.invariant in
    witness_for c.args.table.now c.args.set c.args.start stock c.loop-operation.a.items c.loop-operation.b.items c.requires.start c.requires.known c.requires.part d
