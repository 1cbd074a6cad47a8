use Rattle.std.proofs.Common.{ℕ, ◌≡◌, ◌<◌, ◌∙◌, List, Some, None, inl, inr, ap, arith, get_or, length, subst, sym}
use Rattle.std.specs.Prelude.{IsBitSet, slice_index_or}
use Rattle.std.proofs.lemmas.List.{get_or_default}
use Rattle.std.proofs.lemmas.Option.{same_Some}
use Rattle.cn_outcomes.proofs.Packing.{below_or_last}
use Rattle.cn_stocks.specs.declared.stocks.Stock.{Stock}
use Rattle.cn_telling.specs.Levels.{AreStarts}
use Rattle.cn_stocks.proofs.StockLemmas.{items_within}
use Rattle.cn_stocks.proofs.Times.{same_has}
use Rattle.cn_stocks.proofs.Zips.{zip_long}
use Rattle.cn_telling.proofs.levels.less_starts.Goals as goal
use Rattle.cn_telling.proofs.levels.less_starts.Goals.{in-Some, in_default}

pub index-requires : goal.index-requires
index-requires c =
    let level = c.args.level.now in
    let fit : Stock → ℕ → Type 0 = λ stock starts. AreStarts c.args.table.now stock.operations.items starts in
    let h = c.requires.stock_is.smaller.some c.loop-operation.operation c.in-Some.place c.in-Some.is in
    omega (arith, items_within level.stocks.list.items c.in-Some.place h.0 h.1, zip_long fit level.stocks.list.items level.starts.items c.requires.level_is.starts, level.starts.ok.0)

read_at : (starts : List ℕ) (place j x : ℕ) → x ≡ get_or starts place x → place ≡ j → j < length starts → x ≡ get_or starts j 0
read_at starts place j x e same l = e ∙ ap (λ (i : ℕ). get_or starts i x) same ∙ get_or_default starts j x 0 l

pub loop-operation-preserved : goal.loop-operation-preserved
loop-operation-preserved c x j q l e b =
    let k = c.loop-operation.operation in
    let level = c.args.level.now in
    let starts = level.starts.items in
    let smaller = c.args.stock.now.less in
    let fit : Stock → ℕ → Type 0 = λ stock starts. AreStarts c.args.table.now stock.operations.items starts in
    let less = c.requires.stock_is.smaller.some x j e in
    let inside : j < length starts = omega (arith, items_within level.stocks.list.items j less.0 less.1, zip_long fit level.stocks.list.items starts c.requires.level_is.starts) in
    elim c.match-stock-operation.branch [
      | in-Some w ↦ subst (λ (set : ℕ). IsBitSet set q) (sym w.set-is) ((w.union-set.ensures q).1 (elim (below_or_last x k l) [
        | inl u ↦ inl (c.loop-operation.invariant x j q u e b)
        | inr same ↦ (
            let place : w.in-Some.place ≡ j = same_Some w.in-Some.place j (sym w.in-Some.is ∙ subst (λ (y : ℕ). slice_index_or smaller y None ≡ Some j) same e) in
            let read : w.index.result.now ≡ get_or starts j 0 = read_at starts w.in-Some.place j w.index.result.now w.index.ensures place inside in
            inr (subst (λ (set : ℕ). IsBitSet set q) (sym read) b)
            )
      ]))
      | in_default w ↦ subst (λ (set : ℕ). IsBitSet set q) (sym w.set-is) (elim (below_or_last x k l) [
        | inl u ↦ c.loop-operation.invariant x j q u e b
        | inr same ↦ absurd (w.in_default.not-Some j (subst (λ (y : ℕ). slice_index_or smaller y None ≡ Some j) same e))
      ])
    ]

pub returns : goal.returns
returns c x j q e b =
    let stock = c.requires.stock_is in
    let link = stock.smaller.some x j e in
    let known = stock.known x (same_has x c.args.stock.now.operations.items link.0 link.2) in
    c.loop-operation.invariant x j q (omega (arith, known, c.loop-operation-test.false, c.operations-operation-end.ensures.number)) e b
