use Rattle.std.proofs.Common.{ℕ, ◌≡◌, ◌∙◌, List, Some, ap, arith, inl, inr, length, refl, subst, sym, true≢false}
use Rattle.std.specs.Prelude.{slice_get}
use Rattle.std.proofs.lemmas.Option.{same_Some, slice_get_read, slice_get_within}
use Rattle.cn_outcomes.proofs.Packing.{below_or_last}
use Rattle.cn_stocks.specs.declared.stocks.Stock.{Stock}
use Rattle.cn_telling.specs.Candidates.{SplitsFromSome}
use Rattle.cn_telling.specs.Rows.{RowsDiffer}
use Rattle.cn_telling.proofs.CandidateLemmas.{place_of_split, search_long, search_next, some_split}
use Rattle.cn_telling.proofs.exact.some_splits.Goals as goal

pub rows_differ-requires : goal.rows_differ-requires
rows_differ-requires c =
    let list = c.deref-stock-items.result.now in
    let i = c.loop-stock.stock-index in
    let s = c.stock-item.result in
    let here = slice_get_read list (length list) i s refl c.loop-stock-test.true c.stock-item.is in
    let next = search_next c.args.table.now c.args.n c.args.search.now i s c.requires.search (subst (λ (l : List Stock). slice_get l i ≡ Some s) c.deref-stock-items.ensures.value here) in
    (c.args.search.now.below.stocks.list.items, next.stock_is)

pub splits_from_some-requires-clause-next : goal.splits_from_some-requires-clause-next
splits_from_some-requires-clause-next c =
    let list = c.deref-stock-items.result.now in
    let i = c.loop-stock.stock-index in
    let s = c.stock-item.result in
    let here = slice_get_read list (length list) i s refl c.loop-stock-test.true c.stock-item.is in
    search_next c.args.table.now c.args.n c.args.search.now i s c.requires.search (subst (λ (l : List Stock). slice_get l i ≡ Some s) c.deref-stock-items.ensures.value here)

pub splits_from_some-requires-clause-some : goal.splits_from_some-requires-clause-some
splits_from_some-requires-clause-some c =
    let list = c.deref-stock-items.result.now in
    let i = c.loop-stock.stock-index in
    let s = c.stock-item.result in
    let here = slice_get_read list (length list) i s refl c.loop-stock-test.true c.stock-item.is in
    let long = search_long c.args.table.now c.args.n c.args.search.now i s c.requires.search (subst (λ (l : List Stock). slice_get l i ≡ Some s) c.deref-stock-items.ensures.value here) in
    omega (arith, long, c.requires.some)

pub returns-then-branch : goal.returns-then-branch
returns-then-branch c =
    let list = c.deref-stock-items.result.now in
    let i = c.loop-stock.stock-index in
    let s = c.stock-item.result in
    let here = slice_get_read list (length list) i s refl c.loop-stock-test.true c.stock-item.is in (
      λ h. some_split c.args.table.now c.args.n c.args.search.now i s c.requires.search (subst (λ (l : List Stock). slice_get l i ≡ Some s) c.deref-stock-items.ensures.value here) (c.in_ok-splits_from_some.ensures.0 c.if-branch.true),
      λ h. refl,
    )

pub loop-stock-preserved-then-not-rows_differ : goal.loop-stock-preserved-then-not-rows_differ
loop-stock-preserved-then-not-rows_differ c j r l at differ h =
    let list = c.deref-stock-items.result.now in
    let i = c.loop-stock.stock-index in
    let s = c.stock-item.result in
    let here = slice_get_read list (length list) i s refl c.loop-stock-test.true c.stock-item.is in
    let there = subst (λ (l : List Stock). slice_get l i ≡ Some s) c.deref-stock-items.ensures.value here in
    elim (below_or_last j i l) [
      | inl u ↦ c.loop-stock.invariant j r u at differ h
      | inr e ↦ (
          let same : r ≡ s = same_Some r s (sym at ∙ subst (λ (k : ℕ). slice_get c.args.search.now.stocks.list.items k ≡ Some s) (sym e) there) in
          true≢false (sym (c.rows_differ.ensures.1 (subst (λ (x : Stock). RowsDiffer c.args.table.now x.operations.items) same differ)) ∙ c.if-not-rows_differ.true)
          )
    ]

pub loop-stock-preserved : goal.loop-stock-preserved
loop-stock-preserved c j r l at differ h =
    let list = c.deref-stock-items.result.now in
    let i = c.loop-stock.stock-index in
    let s = c.stock-item.result in
    let here = slice_get_read list (length list) i s refl c.loop-stock-test.true c.stock-item.is in
    let there = subst (λ (l : List Stock). slice_get l i ≡ Some s) c.deref-stock-items.ensures.value here in
    elim (below_or_last j i l) [
      | inl u ↦ c.loop-stock.invariant j r u at differ h
      | inr e ↦ (
          let same : r ≡ s = same_Some r s (sym at ∙ subst (λ (k : ℕ). slice_get c.args.search.now.stocks.list.items k ≡ Some s) (sym e) there) in
          true≢false (sym (c.in_ok-splits_from_some.ensures.1 (subst (λ (x : Stock). SplitsFromSome c.args.table.now x.operations.items) same h)) ∙ c.if-branch.false)
          )
    ]

pub returns : goal.returns
returns c = (
  λ h. absurd (true≢false (sym h)),
  λ h. absurd (
      let items = c.args.search.now.stocks.list.items in
      let at = place_of_split c.args.table.now c.args.n c.args.search.now c.requires.some c.requires.search h in
      let l = slice_get_within items at.0 at.1.0 at.1.1 in
      c.loop-stock.invariant at.0 at.1.0 (omega (arith, l, c.loop-stock-test.false, ap length c.deref-stock-items.ensures.value)) at.1.1 at.1.2 at.1.3),
)
