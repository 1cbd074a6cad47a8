use Rattle.std.proofs.Common.{◌↔◌, IsTrue, subst, arith}
use Rattle.cn_joins.specs.Joins.{IsPlacedWord, PlacedWord}
use Rattle.cn_stock_check.proofs.WordLemmas.{word_by}
use Rattle.cn_stock_check.proofs.words.is_word.Goals as goal

pub returns-then-placed-len : goal.returns-then-placed-len
returns-then-placed-len c =
    subst (λ (w : PlacedWord). IsTrue c.are_known.result ↔ IsPlacedWord c.args.table.now w) c.placed.view_is
    (word_by c.args.table.now c.placed.inside.word.items c.placed.inside.place c.are_known.result (omega arith) (rw c.as_slice.ensures.value at c.are_known.ensures))
