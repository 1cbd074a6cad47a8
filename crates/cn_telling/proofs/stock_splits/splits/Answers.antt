use Rattle.std.proofs.Common.{ℕ, ◌≤◌, List, arith, length, subst, sym}
use Rattle.std.specs.Prelude.{slice_index}
use Rattle.cn_stocks.specs.declared.stocks.Stock.{Stock}
use Rattle.cn_stocks.specs.Words.{IsKnown, times}
use Rattle.cn_stocks.proofs.Fewer.{splits_same}
use Rattle.cn_stocks.proofs.Times.{same_sym, times_of_place}
use Rattle.cn_telling.specs.Asking.{AreCellsOver}
use Rattle.cn_telling.specs.Joined.{IsLast}
use Rattle.cn_telling.proofs.CellLemmas.{cells_over}
use Rattle.cn_telling.proofs.JoinLemmas.{apart_splits, self_joined, splits_apart}
use Rattle.cn_telling.proofs.stock_splits.splits.Goals as goal

pub joined_sets-requires-clause-cells : goal.joined_sets-requires-clause-cells
joined_sets-requires-clause-cells c =
    let t = c.args.table.now in
    let are = c.in_ok-cells.ensures in
    subst (AreCellsOver t) (sym c.as_slice.ensures.value) (cells_over t c.args.stock.now are.0 c.in_ok-cells.cells.items are.1 are.2 c.requires.known)

pub joined_sets-requires-clause-some : goal.joined_sets-requires-clause-some
joined_sets-requires-clause-some c = subst (λ (list : List Stock). 1 ≤ length list) (sym c.as_slice.ensures.value) c.in_ok-cells.ensures.1.some

pub fall_apart-requires-clause-known : goal.fall_apart-requires-clause-known
fall_apart-requires-clause-known c =
    let first = slice_index c.args.stock.now 0 in
    let known = c.requires.known first (times_of_place c.args.stock.now 0 (omega (arith, c.requires.some))) in
    omega (arith, known, c.operations.ensures.number, c.operations.ensures.range.1)

pub fall_apart-requires-clause-some : goal.fall_apart-requires-clause-some
fall_apart-requires-clause-some c =
    let t = c.args.table.now in
    let are = c.in_ok-cells.ensures in
    let first = slice_index c.args.stock.now 0 in
    let last = subst (IsLast are.0) (sym c.as_slice.ensures.value) are.1.last in
    let there : 1 ≤ times first are.0 = omega (arith, times_of_place c.args.stock.now 0 (omega (arith, c.requires.some)), are.2 first) in
    (first, (c.in_ok-joined.ensures are.0 last first first).1 (self_joined t c.args.start are.0 first there))

pub returns : goal.returns
returns c =
    let t = c.args.table.now in
    let are = c.in_ok-cells.ensures in
    let sets = c.in_ok-joined.joined in
    let last = subst (IsLast are.0) (sym c.as_slice.ensures.value) are.1.last in
    let joined = c.in_ok-joined.ensures are.0 last in (
      λ h. splits_same t c.args.start are.0 c.args.stock.now are.2 (apart_splits t c.args.start are.0 sets joined (c.fall_apart.ensures.0 h)),
      λ s. c.fall_apart.ensures.1 (splits_apart t c.args.start are.0 sets joined (splits_same t c.args.start c.args.stock.now are.0 (same_sym are.0 c.args.stock.now are.2) s)),
    )

pub stocks_within-requires-clause-known : goal.stocks_within-requires-clause-known
stocks_within-requires-clause-known c = subst (λ (k : ℕ). IsKnown k c.args.stock.now) (sym c.operations.ensures.number) c.requires.known
