use Rattle.std.proofs.Common.{ap, subst, sym, ◌∙◌, true≢false}
use Rattle.cn_joins.specs.Joins.{Join}
use Rattle.cn_stocks.specs.Words.{IsWithin}
use Rattle.cn_join_find.proofs.reach.has_words_of.Goals as goal

pub returns-then-first : goal.returns-then-first
returns-then-first c =
    let in_stock = IsWithin c.args.stock.now in
    let first = ap (λ (x : Join). x.first.word) c.join.view_is in
    let second = ap (λ (x : Join). x.second.word) c.join.view_is in (
      λ h. (subst in_stock first (c.is_word_of-first.ensures.0 c.if-first.true), subst in_stock second (c.is_word_of-second.ensures.0 h)),
      λ w. c.is_word_of-second.ensures.1 (subst in_stock (sym second) w.1),
    )

pub returns-else-first : goal.returns-else-first
returns-else-first c =
    let first = ap (λ (x : Join). x.first.word) c.join.view_is in (
      λ h. absurd (true≢false (sym h ∙ c.if-first.false)),
      λ w. c.is_word_of-first.ensures.1 (subst (IsWithin c.args.stock.now) (sym first) w.0),
    )
