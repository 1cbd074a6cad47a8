use Rattle.std.proofs.Common.{ℕ, ◌≡◌, ◌+◌, ◌-◌, arith, subst, sym}
use Rattle.cn_stocks.specs.Each.{EachAt}
use Rattle.cn_stocks.specs.declared.stocks.Stocks.{Stocks}
use Rattle.cn_stocks.proofs.EachLemmas.{each_push}
use Rattle.cn_divisions.specs.declared.search.Divisions.{Divisions}
use Rattle.cn_divisions.specs.Divisions.{AreDivisions}
use Rattle.cn_divisions.specs.Levels.{AreAllStarts}
use Rattle.cn_divisions.specs.Looks.{AreLooks}
use Rattle.cn_divisions.proofs.search.find_divisions.Goals as goal

pub here-requires-clause-looks : goal.here-requires-clause-looks
here-requires-clause-looks c = subst (AreLooks c.args.table.now c.args.sights.now) (sym c.as_slice-looks.ensures.value) c.in_ok-looks.ensures

pub here-requires-clause-starts : goal.here-requires-clause-starts
here-requires-clause-starts c =
    let t = c.args.table.now in
    let sights = c.args.sights.now in
    let before = c.as_slice-before.result.now in
    let below : AreAllStarts t sights c.loop-n.search.stocks.list.items before = subst (AreAllStarts t sights c.loop-n.search.stocks.list.items) (sym c.as_slice-before.ensures.value) c.loop-n.invariant.starts_are in
    subst (λ (s : Stocks). AreAllStarts t sights s.list.items before) (sym c.in_ok-search-3.ensures.below) below

pub loop-n-preserved : goal.loop-n-preserved
loop-n-preserved c =
    let t = c.args.table.now in
    let sights = c.args.sights.now in
    let n = c.loop-n.n in
    let at : n + 1 ≡ n - 1 + 2 = omega (arith, c.loop-n.auto.n) in
    let count : n - 1 + 1 ≡ n + 1 - 1 = omega (arith, c.loop-n.auto.n) in
    let fit : ℕ → Divisions → Type 0 = λ i d. AreDivisions t sights (i + 2) d in
    record {
      search_is = c.in_ok-search-3.ensures.search;
      starts_are = c.in_ok-here.ensures.starts;
      each = subst (λ (k : ℕ). EachAt fit k c.push.new.self.items) count
          (each_push fit c.loop-n.all.items c.push.new.self.items c.in_ok-here.here.0 (n - 1) c.in_ok-push.ensures.items c.loop-n.invariant.each (subst (λ (k : ℕ). AreDivisions t sights k c.in_ok-here.here.0) at c.in_ok-here.ensures.divisions));
    }
