use Rattle.std.proofs.Common.{length, subst, sym}
use Rattle.cn_joins.specs.Joins.{Join}
use Rattle.cn_stocks.specs.Words.{IsKnown}
use Rattle.cn_join_find.proofs.renaming.renamed_join.Goals as goal

pub renamed_word-requires : goal.renamed_word-requires
renamed_word-requires c = subst (λ (join : Join). IsKnown (length c.args.numbers.now) join.first.word) (sym c.old.view_is) c.requires.first

pub renamed_word-requires-2 : goal.renamed_word-requires-2
renamed_word-requires-2 c = subst (λ (join : Join). IsKnown (length c.args.numbers.now) join.second.word) (sym c.old.view_is) c.requires.second
