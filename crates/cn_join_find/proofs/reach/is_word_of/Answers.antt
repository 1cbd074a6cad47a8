use Rattle.std.proofs.Common.{◌≡◌, ◌∙◌, ap, subst, sym}
use Rattle.cn_joins.specs.Joins.{PlacedWord}
use Rattle.cn_stocks.specs.Words.{IsWithin}
use Rattle.cn_join_find.proofs.reach.is_word_of.Goals as goal

pub returns : goal.returns
returns c =
    let e : c.as_slice.result.now ≡ c.args.placed.now.word = c.as_slice.ensures.value ∙ ap (λ (w : PlacedWord). w.word) c.placed.view_is in (
      λ h. subst (IsWithin c.args.stock.now) e (c.is_within.ensures.0 h),
      λ w. c.is_within.ensures.1 (subst (IsWithin c.args.stock.now) (sym e) w),
    )
