use Rattle.std.proofs.Common.{ℕ, List, ◌≡◌, arith, length, subst, Some, slice_get}
use Rattle.cn_stocks.specs.Each.{EachAt}
use Rattle.cn_stocks.specs.declared.stocks.Stock.{Stock}
use Rattle.cn_stocks.proofs.EachLemmas.{each_none, each_push}
use Rattle.cn_table.specs.TypeTable.{TypeTable}
use Rattle.cn_divisions.specs.Levels.{AreStarts}
use Rattle.cn_meetings.specs.Sights.{sight_of}
use Rattle.cn_divisions.specs.declared.levels.Starts.{Starts}
use Rattle.cn_meetings.specs.declared.sight.Sight.{Sight}
use Rattle.cn_divisions.proofs.search.Search.any_starts.Goals as goal

abbrev Fits : TypeTable → List Sight → List Stock → ℕ → Starts → Type 0
Fits t sights stocks i s = (sight : Sight) → slice_get sights i ≡ Some sight → AreStarts t (sight_of sight) stocks (length stocks) s.sets.items

pub loop-place-init : goal.loop-place-init
loop-place-init c = each_none (Fits c.args.table.now c.args.sights.now c.args.self.now.stocks.list.items) c.in_ok-starts.starts.items c.in_ok-starts.ensures.items

pub loop-place-preserved : goal.loop-place-preserved
loop-place-preserved c =
    each_push (Fits c.args.table.now c.args.sights.now c.args.self.now.stocks.list.items) c.loop-place.starts.items c.push.new.self.items (record { sets = c.in_ok-sets.sets }) c.loop-place._place c.in_ok-push.ensures.items c.loop-place.invariant
    (λ sight e. (omega (arith, c.in_ok-sets.ensures.0, c.len.ensures), λ i set at s there q l split. c.in_ok-sets.ensures.1 i set at q (omega (arith, l, c.states-states.ensures.number, c.states-states.ensures.range.1))))

pub returns : goal.returns
returns c =
    let end : c.loop-place._place ≡ length c.args.sights.now = omega (arith, c.loop-place-test.false, c.loop-place.auto._place-end) in
    subst (λ (k : ℕ). EachAt (Fits c.args.table.now c.args.sights.now c.args.self.now.stocks.list.items) k c.loop-place.starts.items) end c.loop-place.invariant
