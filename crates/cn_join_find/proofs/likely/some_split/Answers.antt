use Rattle.std.proofs.Common.{◌≡◌, ℕ, List, Some, arith, subst}
use Rattle.std.specs.Prelude.{slice_get}
use Rattle.cn_stocks.specs.declared.stocks.Stock.{Stock}
use Rattle.cn_stocks.proofs.StockLemmas.{read_stock}
use Rattle.cn_telling.proofs.CandidateLemmas.{search_long, search_next}
use Rattle.cn_join_find.specs.Marks.{IsWitnessFor}
use Rattle.cn_join_find.proofs.likely.some_split.Goals as goal

pub likely_starts-starts-requires : goal.likely_starts-starts-requires
likely_starts-starts-requires c =
    let i = c.loop-stock.stock-index in
    let s = c.stock-item.result in
    let here = subst (λ (l : List Stock). slice_get l i ≡ Some s) c.deref-stock-items.ensures.value (read_stock c.deref-stock-items.result.now i s (omega (arith, c.loop-stock-test.true)) c.stock-item.is) in
    search_next c.args.table.now c.args.n c.args.search.now i s c.requires.search here

pub split_from-requires-clause-known : goal.split_from-requires-clause-known
split_from-requires-clause-known c =
    let i = c.loop-stock.stock-index in
    let s = c.stock-item.result in
    let here = subst (λ (l : List Stock). slice_get l i ≡ Some s) c.deref-stock-items.ensures.value (read_stock c.deref-stock-items.result.now i s (omega (arith, c.loop-stock-test.true)) c.stock-item.is) in
    (c.requires.search.stocks.stocks i s here).known

pub split_from-requires-clause-some : goal.split_from-requires-clause-some
split_from-requires-clause-some c =
    let i = c.loop-stock.stock-index in
    let s = c.stock-item.result in
    let here = subst (λ (l : List Stock). slice_get l i ≡ Some s) c.deref-stock-items.ensures.value (read_stock c.deref-stock-items.result.now i s (omega (arith, c.loop-stock-test.true)) c.stock-item.is) in
    omega (arith, search_long c.args.table.now c.args.n c.args.search.now i s c.requires.search here, c.requires.some)

pub returns-in-Some : goal.returns-in-Some
returns-in-Some c =
    let i = c.loop-stock.stock-index in
    let s = c.stock-item.result in
    let here = subst (λ (l : List Stock). slice_get l i ≡ Some s) c.deref-stock-items.ensures.value (read_stock c.deref-stock-items.result.now i s (omega (arith, c.loop-stock-test.true)) c.stock-item.is) in
    let found = rw c.in-Some.is at c.in_ok-found.ensures in
    subst (λ (n : ℕ). IsWitnessFor c.args.table.now n c.in-Some.split) (search_long c.args.table.now c.args.n c.args.search.now i s c.requires.search here) found
