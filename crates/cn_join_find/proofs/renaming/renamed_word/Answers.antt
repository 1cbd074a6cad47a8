use Rattle.std.proofs.Common.{◌∙◌, ◌<◌, List, ℕ, ap, arith, get_or, length, subst, sym}
use Rattle.cn_stocks.proofs.Times.{times_of_place}
use Rattle.cn_joins.specs.Joins.{PlacedWord}
use Rattle.cn_join_find.proofs.renaming.renamed_word.Goals as goal

pub bounds-numbers-operation : goal.bounds-numbers-operation
bounds-numbers-operation c =
    let i = c.loop-operation.operation-index in
    let word = c.args.old.now.word in
    let same = c.deref-operation-items.ensures.value ∙ ap (λ (w : PlacedWord). w.word) c.old.view_is in
    subst (λ (list : List ℕ). get_or list i 0 < length c.args.numbers.now) (sym same) (c.requires (get_or word i 0) (times_of_place word i (omega (arith, c.loop-operation-test.true, ap length same))))
