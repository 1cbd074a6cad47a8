use Rattle.std.proofs.Common.{ℕ, List, ◌≡◌, ◌∙◌, arith, length, refl, subst, sym, Some, slice_get}
use Rattle.std.proofs.lemmas.Option.{same_Some, slice_get_read}
use Rattle.cn_stocks.specs.Each.{EachAt}
use Rattle.cn_stocks.specs.declared.stocks.Stock.{Stock}
use Rattle.cn_stocks.proofs.EachLemmas.{each_none, each_push}
use Rattle.cn_table.specs.TypeTable.{TypeTable}
use Rattle.cn_divisions.specs.Divisions.{AreOfSight}
use Rattle.cn_divisions.specs.Levels.{AreStarts}
use Rattle.cn_meetings.specs.Sights.{sight_of}
use Rattle.cn_divisions.specs.declared.levels.Starts.{Starts}
use Rattle.cn_meetings.specs.declared.sight.Sight.{Sight}
use Rattle.cn_divisions.proofs.search.Search.here.Goals as goal

abbrev Fits : TypeTable → List Sight → List Stock → ℕ → Starts → Type 0
Fits t sights stocks i s = (sight : Sight) → slice_get sights i ≡ Some sight → AreStarts t (sight_of sight) stocks (length stocks) s.sets.items

pub bounds-looks-place : goal.bounds-looks-place
bounds-looks-place c = omega (arith, c.requires.looks.0, c.loop-place-test.true)

pub bounds-starts-place : goal.bounds-starts-place
bounds-starts-place c = omega (arith, c.requires.starts.0, c.loop-place-test.true)

pub divisions_of-requires-clause-next : goal.divisions_of-requires-clause-next
divisions_of-requires-clause-next c i s e = record { level_is = c.requires.search.level; stock_is = c.requires.search.all.stocks i s e }

pub divisions_of-requires-clause-look : goal.divisions_of-requires-clause-look
divisions_of-requires-clause-look c =
    let looks = c.args.looks.now in
    let k = c.loop-place.place in
    let look = c.index-looks-place.result in
    (c.requires.looks.1 k look (slice_get_read looks (length looks) k look refl (omega (arith, c.requires.looks.0, c.loop-place-test.true)) c.index-looks-place.is)).1

pub divisions_of-requires-clause-starts : goal.divisions_of-requires-clause-starts
divisions_of-requires-clause-starts c =
    let looks = c.args.looks.now in
    let starts = c.args.starts.now in
    let k = c.loop-place.place in
    let look = c.index-looks-place.result in
    let s = c.index-starts-place.result in
    let at = (c.requires.looks.1 k look (slice_get_read looks (length looks) k look refl (omega (arith, c.requires.looks.0, c.loop-place-test.true)) c.index-looks-place.is)).0 in
    c.requires.starts.1 k s (slice_get_read starts (length starts) k s refl (omega (arith, c.requires.starts.0, c.loop-place-test.true)) c.index-starts-place.is) look.sight at

pub loop-place-init : goal.loop-place-init
loop-place-init c = record {
  divisions = each_none (AreOfSight c.args.table.now c.args.sights.now c.args.n) c.in_ok-by_sight.by_sight.items c.in_ok-by_sight.ensures.items;
  starts = each_none (Fits c.args.table.now c.args.sights.now c.args.self.now.stocks.list.items) c.in_ok-next.next.items c.in_ok-next.ensures.items;
}

pub loop-place-preserved : goal.loop-place-preserved
loop-place-preserved c =
    let t = c.args.table.now in
    let sights = c.args.sights.now in
    let stocks = c.args.self.now.stocks.list.items in
    let looks = c.args.looks.now in
    let k = c.loop-place.place in
    let look = c.index-looks-place.result in
    let found = c.in_ok-found.found in
    let at = (c.requires.looks.1 k look (slice_get_read looks (length looks) k look refl (omega (arith, c.requires.looks.0, c.loop-place-test.true)) c.index-looks-place.is)).0 in
    record {
      divisions = each_push (AreOfSight t sights c.args.n) c.loop-place.by_sight.items c.push.new.self.items (record { sight = look.sight; list = found.divisions }) k c.in_ok-push.ensures.items c.loop-place.invariant.divisions
          (record { sight_is = at; all = c.in_ok-found.ensures.all });
      starts = each_push (Fits t sights stocks) c.loop-place.next.items c.push-in-loop-place.new.self.items found.starts k c.in_ok-push-2.ensures.items c.loop-place.invariant.starts
          (λ sight e. subst (λ (s : Sight). AreStarts t (sight_of s) stocks (length stocks) found.starts.sets.items) (same_Some _ _ (sym at ∙ e)) c.in_ok-found.ensures.starts);
    }

pub returns-clause-divisions : goal.returns-clause-divisions
returns-clause-divisions c =
    let end : c.loop-place.place ≡ length c.args.sights.now = omega (arith, c.loop-place-test.false, c.loop-place.auto.place-end) in
    subst (λ (k : ℕ). EachAt (AreOfSight c.args.table.now c.args.sights.now c.args.n) k c.loop-place.by_sight.items) end c.loop-place.invariant.divisions

pub returns-clause-starts : goal.returns-clause-starts
returns-clause-starts c =
    let end : c.loop-place.place ≡ length c.args.sights.now = omega (arith, c.loop-place-test.false, c.loop-place.auto.place-end) in
    subst (λ (k : ℕ). EachAt (Fits c.args.table.now c.args.sights.now c.args.self.now.stocks.list.items) k c.loop-place.next.items) end c.loop-place.invariant.starts
