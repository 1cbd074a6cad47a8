use Rattle.std.proofs.Common.{ℕ, List, ◌≡◌, All, Some, arith, inl, inr, length, refl, slice_get, subst, sym, ap, ◌∙◌}
use Rattle.std.proofs.lemmas.List.Elements.{All-nil}
use Rattle.std.proofs.lemmas.Option.{none-some, same_Some, slice_get_read}
use Rattle.cn_meetings.specs.Meeting.{Meeting}
use Rattle.cn_outcomes.proofs.Packing.{below_or_last}
use Rattle.cn_stocks.specs.declared.stocks.Stock.{Stock}
use Rattle.cn_stocks.specs.Stocks.{items_at}
use Rattle.cn_stocks.specs.Words.{HaveSame}
use Rattle.cn_stocks.proofs.EachLemmas.{each_none, each_push}
use Rattle.cn_stocks.proofs.StockLemmas.{items_of, items_within, same_items}
use Rattle.cn_divisions.specs.declared.divisions.Division.{Division}
use Rattle.cn_divisions.specs.Divisions.{DifferInSizes, HaveSizesOf, IsDivision, IsMeetingOf, operations_of}
use Rattle.cn_divisions.specs.Levels.{AreStarts, HasStarts}
use Rattle.cn_meetings.specs.Sights.{sight_of}
use Rattle.cn_divisions.proofs.Extending.{extended_sizes, meeting_known}
use Rattle.cn_divisions.proofs.Finding.{length_teams}
use Rattle.cn_divisions.proofs.search.divisions_of.Goals as goal

pub add_stock-requires-clause-setting : goal.add_stock-requires-clause-setting
add_stock-requires-clause-setting c =
    let s = c.index-list-place.result in
    let list = c.as_slice-list.result.now in
    let here = slice_get_read list (length list) c.loop-place.place s refl c.loop-place-test.true c.index-list-place.is in
    c.requires.next c.loop-place.place s (subst (λ (xs : List Stock). slice_get xs c.loop-place.place ≡ Some s) c.as_slice-list.ensures.value here)

pub add_stock-requires-clause-few : goal.add_stock-requires-clause-few
add_stock-requires-clause-few c =
    let s = c.index-list-place.result in
    let list = c.as_slice-list.result.now in
    let here = slice_get_read list (length list) c.loop-place.place s refl c.loop-place-test.true c.index-list-place.is in
    let at = items_of c.args.stocks.now.list.items c.loop-place.place s (subst (λ (xs : List Stock). slice_get xs c.loop-place.place ≡ Some s) c.as_slice-list.ensures.value here) in
    omega (arith, c.requires.stocks.1.long c.loop-place.place s.operations.items at, c.requires.few)

pub add_stock-requires-clause-many : goal.add_stock-requires-clause-many
add_stock-requires-clause-many c =
    let s = c.index-list-place.result in
    let list = c.as_slice-list.result.now in
    let here = slice_get_read list (length list) c.loop-place.place s refl c.loop-place-test.true c.index-list-place.is in
    let at = items_of c.args.stocks.now.list.items c.loop-place.place s (subst (λ (xs : List Stock). slice_get xs c.loop-place.place ≡ Some s) c.as_slice-list.ensures.value here) in
    omega (arith, c.requires.stocks.1.long c.loop-place.place s.operations.items at, c.requires.many)

pub add_stock-requires-clause-are : goal.add_stock-requires-clause-are
add_stock-requires-clause-are c =
    let s = c.index-list-place.result in
    let list = c.as_slice-list.result.now in
    let here = slice_get_read list (length list) c.loop-place.place s refl c.loop-place-test.true c.index-list-place.is in
    let at = items_of c.args.stocks.now.list.items c.loop-place.place s (subst (λ (xs : List Stock). slice_get xs c.loop-place.place ≡ Some s) c.as_slice-list.ensures.value here) in
    let long = c.requires.stocks.1.long c.loop-place.place s.operations.items at in
    subst (λ (n : ℕ). All (IsDivision c.args.table.now (sight_of c.args.look.now.sight) n) c.loop-place.divisions.items) (sym long) c.loop-place.invariant.are

pub loop-place-init : goal.loop-place-init
loop-place-init c = record {
  are = subst (λ (xs : List Division). All (IsDivision c.args.table.now (sight_of c.args.look.now.sight) c.args.n) xs) (sym c.new-divisions.ensures.items) (All-nil (IsDivision c.args.table.now (sight_of c.args.look.now.sight) c.args.n));
  once = subst DifferInSizes (sym c.new-divisions.ensures.items) (λ i j d e at there same. absurd (none-some d at));
  done = λ M m i items l at same. absurd (omega (arith, l));
  starts_are = each_none _ c.in_ok-sets.sets.items c.in_ok-sets.ensures.items;
}

pub loop-place-preserved : goal.loop-place-preserved
loop-place-preserved c =
    let t = c.args.table.now in
    let sight = sight_of c.args.look.now.sight in
    let n = c.args.n in
    let s = c.index-list-place.result in
    let list = c.as_slice-list.result.now in
    let all = c.args.stocks.now.list.items in
    let k = c.loop-place.place in
    let here = slice_get_read list (length list) k s refl c.loop-place-test.true c.index-list-place.is in
    let at = items_of all k s (subst (λ (xs : List Stock). slice_get xs k ≡ Some s) c.as_slice-list.ensures.value here) in
    let long = c.requires.stocks.1.long k s.operations.items at in
    let new = c.add_stock.new.found.items in
    let added = c.in_ok-here.ensures in
    let its : (M : Meeting) → IsMeetingOf t sight n M → HaveSame s.operations.items (operations_of M n) → HaveSizesOf t n M new =
    subst (λ (m : ℕ). (M : Meeting) → IsMeetingOf t sight m M → HaveSame s.operations.items (operations_of M m) → HaveSizesOf t m M new) long added.all in
    record {
      are = subst (λ (m : ℕ). All (IsDivision t sight m) new) long added.are;
      once = added.once;
      done = λ M m i items l where_at same. elim (below_or_last i k l) [
        | inl u ↦ extended_sizes t n M c.loop-place.divisions.items new added.kept (c.loop-place.invariant.done M m i items u where_at same)
        | inr e ↦ its M m (subst (λ (xs : List ℕ). HaveSame xs (operations_of M n)) (same_items all k items s.operations.items (subst (λ (j : ℕ). items_at all j ≡ Some items) e where_at) at) same)
      ];
      starts_are = each_push _ c.loop-place.sets.items c.push.new.self.items c.in_ok-here.here k c.in_ok-push.ensures.items c.loop-place.invariant.starts_are
          (λ z e. subst (λ (x : Stock). HasStarts t sight x.operations.items c.in_ok-here.here) (same_Some _ _ (sym (subst (λ (xs : List Stock). slice_get xs k ≡ Some s) c.as_slice-list.ensures.value here) ∙ e)) added.starts);
    }

pub returns-clause-all : goal.returns-clause-all
returns-clause-all c =
    let t = c.args.table.now in
    let sight = sight_of c.args.look.now.sight in
    let n = c.args.n in
    let all = c.args.stocks.now.list.items in
    record {
      are = c.loop-place.invariant.are;
      once = c.loop-place.invariant.once;
      all = λ M m.
          let found = c.requires.stocks.1.all (operations_of M n) (meeting_known t sight n M m) (length_teams M.operation n) in
          let l = items_within all found.0 found.1.0 found.1.1 in
          c.loop-place.invariant.done M m found.0 found.1.0 (omega (arith, l, c.loop-place-test.false, ap length c.as_slice-list.ensures.value)) found.1.1 found.1.2;
    }

pub returns-clause-starts : goal.returns-clause-starts
returns-clause-starts c =
    let all = c.args.stocks.now.list.items in
    let end : c.loop-place.place ≡ length all = omega (arith, c.loop-place-test.false, c.loop-place.auto.place-end, ap length c.as_slice-list.ensures.value) in
    subst (λ (k : ℕ). AreStarts c.args.table.now (sight_of c.args.look.now.sight) all k c.loop-place.sets.items) end c.loop-place.invariant.starts_are
