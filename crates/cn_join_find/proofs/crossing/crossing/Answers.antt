use Rattle.std.proofs.Common.{ℕ, ◌≡◌, ◌-◌, ◌<◌, List, inl, inr, arith, length, refl, subst, sym}
use Rattle.std.proofs.lemmas.Option.{slice_get_read}
use Rattle.cn_outcomes.proofs.Packing.{below_or_last}
use Rattle.cn_telling.specs.Asking.{AreShownOf}
use Rattle.cn_telling.specs.declared.shown.Shown.{Shown}
use Rattle.cn_join_find.specs.Crossing.{IsCrossing, NoneShown}
use Rattle.cn_join_find.proofs.CrossLemmas.{none_asked, none_match, not_asked}
use Rattle.cn_join_find.proofs.StepLemmas.{none_at}
use Rattle.cn_join_find.proofs.WordLemmas.{known_at}
use Rattle.cn_join_find.proofs.crossing.crossing.Goals as goal

pub loop-asked-preserved-in_default : goal.loop-asked-preserved-in_default
loop-asked-preserved-in_default c whole at o l = elim (below_or_last o c.loop-asked.asked l) [
  | inl u ↦ c.loop-asked.invariant whole at o u
  | inr e ↦ (
      let cells = c.args.cells.now in
      let list = cells.stocks.now in
      let last : ℕ = length list - 1 in
      let s = c.index-stocks-last.result in
      let inside : last < length list = omega (arith, c.requires.some) in
      let here = slice_get_read list (length list) last s refl inside c.index-stocks-last.is in
      let none = none_at cells c.requires.cells last c.loop-asked.asked s whole here at c.in_default.not-Some in
      subst (λ (x : ℕ). NoneShown cells.table.now c.args.start whole c.args.set x) (sym e) (not_asked cells.table.now c.args.start c.args.set c.loop-asked.asked whole none)
      )
]

pub crossing_by-requires-clause-views : goal.crossing_by-requires-clause-views
crossing_by-requires-clause-views c =
    let cells = c.args.cells.now in
    record {
      cells = c.requires.cells;
      count = subst (λ (shown : List Shown). length shown ≡ length cells.stocks.now) (sym c.as_slice.ensures.value) c.in_ok-shown.ensures.count;
      shown = subst (λ (shown : List Shown). AreShownOf cells.table.now c.loop-asked.asked cells.stocks.now shown) (sym c.as_slice.ensures.value) c.in_ok-shown.ensures.shown;
      asked_known = omega (arith, c.loop-asked-test.true, c.operations-asked-end.ensures.number);
    }

pub loop-asked-preserved : goal.loop-asked-preserved
loop-asked-preserved c whole at o l = elim (below_or_last o c.loop-asked.asked l) [
  | inl u ↦ c.loop-asked.invariant whole at o u
  | inr e ↦ (
      let cells = c.args.cells.now in
      subst (λ (x : ℕ). NoneShown cells.table.now c.args.start whole c.args.set x) (sym e)
      (none_match (NoneShown cells.table.now c.args.start whole c.args.set c.loop-asked.asked) (IsCrossing cells.table.now c.args.start whole c.args.set) c.in_ok-found.found c.in_default-found.not-Some (c.in_ok-found.ensures whole at))
      )
]

pub returns-in-Some-found : goal.returns-in-Some-found
returns-in-Some-found c whole at = let cross = rw c.in-Some-found.is at c.in_ok-found.ensures in cross whole at

pub returns : goal.returns
returns c whole at =
    let cells = c.args.cells.now in
    let t = cells.table.now in
    let list = cells.stocks.now in
    none_asked t c.args.start c.args.set (length t.operations) whole (known_at (length t.operations) list (length list - 1) whole c.requires.cells.over.stocks at)
    (λ o l. c.loop-asked.invariant whole at o (omega (arith, l, c.loop-asked-test.false, c.operations-asked-end.ensures.number)))
