-- From which states a stock of three operations or more has what is asked for.
use Rattle.std.proofs.Common.{ℕ, ◌<◌, ◌≤◌, inl, inr, length, refl, sym, ap, ◌∙◌, subst, arith, None}
use Rattle.std.specs.Prelude.{IsBitSet, slice_index_or}
use Rattle.std.proofs.lemmas.Option.{get_or_from_slice_get}
use Rattle.cn_stocks.specs.declared.levels.Setting.{Setting}
use Rattle.cn_stocks.specs.declared.question.Question.{Question}
use Rattle.cn_stocks.specs.declared.stocks.Stock.{Stock}
use Rattle.cn_stocks.specs.Levels.{AreStarts, HasLessStarts, IsSetting}
use Rattle.cn_stocks.specs.Questions.{Holds}
use Rattle.cn_stocks.specs.Words.{HaveSame, times}
use Rattle.cn_stocks.proofs.Fewer.{holds_same, less_holds}
use Rattle.cn_stocks.proofs.StockLemmas.{by_option, stock_at}
use Rattle.cn_stocks.proofs.Times.{same_has, same_rest}
use Rattle.cn_stocks.proofs.Zips.{zip_at}

-- it has it from one of them with one operation less too
pub less_has : (question : Question) (s : Setting) (set : ℕ) → IsSetting question s → HasLessStarts s set → 3 ≤ length s.stock.now.operations.items → (q : ℕ) → q < length s.table.now.states
    → Holds question s.table.now q s.stock.now.operations.items → IsBitSet set q
less_has question s set is has l q below holds =
    let level = s.level.now in
    let items = s.stock.now.operations.items in
    let fit : Stock → ℕ → Type 0 = λ stock starts. AreStarts question s.table.now stock.operations.items starts in
    let less = less_holds question s.table.now q items l holds in
    let x = less.0 in
    let there = same_has x items less.1 less.2 in
    elim (by_option (slice_index_or s.stock.now.less x None)) [
      | inl e ↦ absurd (omega (arith, there, is.stock_is.smaller.none x e))
      | inr j ↦ (
          let link = is.stock_is.smaller.some x j.0 j.1 in
          let stock = stock_at level.stocks.list.items j.0 link.0 link.1 in
          let starts = zip_at fit level.stocks.list.items level.starts.items is.level_is.starts j.0 stock.0 stock.1 in
          let same : HaveSame less.1 stock.0.operations.items = λ o. same_rest x x items less.1 link.0 refl less.2 link.2 o ∙ ap (times o) (sym stock.2) in
          let bit = (starts.2 q).1 (below, holds_same question s.table.now q less.1 stock.0.operations.items same less.4) in
          has x j.0 q j.1 (subst (λ (set : ℕ). IsBitSet set q) (sym (get_or_from_slice_get level.starts.items j.0 starts.0 0 starts.1)) bit)
          )
    ]
