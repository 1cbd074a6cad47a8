use Rattle.std.proofs.Common.{ℕ, ◌≡◌, ◌<◌, ◌-◌, ◌∙◌, ◌↔◌, List, ap, arith, length, refl, subst, sym}
use Rattle.std.proofs.lemmas.Option.{slice_get_read}
use Rattle.cn_stocks.specs.Meetings.{HasAt}
use Rattle.cn_stocks.specs.Pairs.{Has, set_at}
use Rattle.cn_stocks.specs.Words.{IsKnown, Shows}
use Rattle.cn_stocks.proofs.MeetingLemmas.{none_held}
use Rattle.cn_stocks.proofs.StockLemmas.{items_of, same_items}
use Rattle.cn_telling.specs.Asking.{AreShownOf}
use Rattle.cn_telling.specs.Joined.{AreJoinedBelow}
use Rattle.cn_telling.specs.Settings.{AreEndsOf, IsOver, LinksBelow}
use Rattle.cn_telling.specs.declared.ends.Ends.{Ends}
use Rattle.cn_telling.specs.declared.shown.Shown.{Shown}
use Rattle.cn_telling.proofs.CellLemmas.{over_cells}
use Rattle.cn_telling.proofs.JoinLemmas.{joined_all, joined_more, joined_none}
use Rattle.cn_telling.proofs.joins.joined_sets.Goals as goal

pub loop-asked-init : goal.loop-asked-init
loop-asked-init c whole last f g = (
  λ h. absurd (none_held 8 f g h),
  λ j. absurd (joined_none c.args.table.now c.args.start whole f g j),
)

pub cell_shown-requires-clause-count : goal.cell_shown-requires-clause-count
cell_shown-requires-clause-count c = ap length c.as_slice-in-loop-asked.ensures.value ∙ c.in_ok-ends.ensures.count

pub cell_shown-requires-clause-ends : goal.cell_shown-requires-clause-ends
cell_shown-requires-clause-ends c = subst (AreEndsOf c.args.table.now c.args.cells.now) (sym c.as_slice-in-loop-asked.ensures.value) c.in_ok-ends.ensures.ends

pub shown_by_each-requires-clause-asking : goal.shown_by_each-requires-clause-asking
shown_by_each-requires-clause-asking c =
    let t = c.args.table.now in
    let cells = c.args.cells.now in
    let last : ℕ = length cells - 1 in
    let s = c.index-cells-last.result in
    let inside : last < length cells = omega (arith, c.requires.some) in
    let here = slice_get_read cells (length cells) last s refl inside c.index-cells-last.is in
    record {
      before = cells;
      over = subst (λ (ends : List Ends). IsOver t cells ends s) (sym c.as_slice.ensures.value)
          (over_cells t cells c.in_ok-ends.ends.items last s c.requires.cells c.in_ok-ends.ensures.ends (omega (arith, c.in_ok-ends.ensures.count)) here);
      shown_are = subst (AreShownOf t c.loop-asked.asked cells) (sym c.as_slice-in-loop-asked-2.ensures.value) c.in_ok-shown.ensures.shown;
      within = subst (λ (shown : List Shown). LinksBelow (length shown) s) (sym c.as_slice-in-loop-asked-2.ensures.value)
          (λ x j link. omega (arith, c.requires.cells.back last s here x j link, c.in_ok-shown.ensures.count));
      asked_known = omega (arith, c.loop-asked-test.true, c.operations-asked-end.ensures.number);
    }

pub loop-asked-preserved : goal.loop-asked-preserved
loop-asked-preserved c whole is_last f g =
    let t = c.args.table.now in
    let u = c.args.start in
    let cells = c.args.cells.now in
    let last : ℕ = length cells - 1 in
    let s = c.index-cells-last.result in
    let inside : last < length cells = omega (arith, c.requires.some) in
    let here = slice_get_read cells (length cells) last s refl inside c.index-cells-last.is in
    let same : s.operations.items ≡ whole = same_items cells last s.operations.items whole (items_of cells last s here) is_last in
    let k = c.loop-asked.asked in
    let pairs = c.shown_by_each.result in
    let shown : (f r q : ℕ) → Has (set_at pairs f) r q ↔ Shows t u whole f k r q = λ f r q.
    subst (λ (items : List ℕ). Has (set_at pairs f) r q ↔ Shows t u items f k r q) same (c.shown_by_each.ensures f r q) in
    joined_more t u whole k f g (set_at pairs f) (set_at pairs g) (HasAt c.loop-asked.joined f g) (HasAt c.with_meeting-joined.result f g) (shown f) (shown g)
    (c.loop-asked.invariant whole is_last f g) (c.with_meeting-joined.ensures f g)

pub returns : goal.returns
returns c whole is_last f g =
    let t = c.args.table.now in
    let cells = c.args.cells.now in
    let last : ℕ = length cells - 1 in
    let s = c.index-cells-last.result in
    let inside : last < length cells = omega (arith, c.requires.some) in
    let here = slice_get_read cells (length cells) last s refl inside c.index-cells-last.is in
    let same : s.operations.items ≡ whole = same_items cells last s.operations.items whole (items_of cells last s here) is_last in
    let known : IsKnown (length t.operations) whole = subst (λ (items : List ℕ). IsKnown (length t.operations) items) same (c.requires.cells.stocks last s here).known in
    let end : c.loop-asked.asked ≡ length t.operations = omega (arith, c.operations-asked-end.ensures.number, c.loop-asked-test.false, c.loop-asked.auto.asked-end) in
    joined_all t c.args.start whole (length t.operations) f g (HasAt c.loop-asked.joined f g) known
    (subst (λ (k : ℕ). HasAt c.loop-asked.joined f g ↔ AreJoinedBelow t c.args.start whole k f g) end (c.loop-asked.invariant whole is_last f g))
