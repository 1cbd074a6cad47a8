use Rattle.std.proofs.Common.{ℕ, ◌≡◌, ◌+◌, ◌-◌, ◌↔◌, ap, arith, length, subst, sym}
use Rattle.cn_table.specs.TypeTable.{transition}
use Rattle.cn_stocks.specs.declared.pair_sets.PairSet.{PairSet}
use Rattle.cn_stocks.specs.Pairs.{Has}
use Rattle.cn_stocks.proofs.StockLemmas.{removal_of}
use Rattle.cn_stocks.proofs.Steps.{Gathered, gathered_first, gathered_more, gathered_none}
use Rattle.cn_collisions.specs.Exact.{ShowsAfter, ShowsNow}
use Rattle.cn_collisions.proofs.ExactWords.{ShowsPart, shows_all, shows_none, shows_part_is, shows_part_none}
use Rattle.cn_collisions.proofs.word_sets.shown_from.Goals as goal
use Rattle.cn_collisions.proofs.word_sets.shown_from.Goals.{in-Some, in_default}

pub returns-then-count-eq0 : goal.returns-then-count-eq0
returns-then-count-eq0 c r q =
    let s = c.args.setting.now in
    let t = s.table.now in
    let items = s.stock.now.operations.items in
    let none : c.args.count ≡ 0 = c.if-count-eq0.true in
    let set = c.shown_now-set.result in
    let now = subst (λ (k : ℕ). Has set r q ↔ ShowsNow t c.args.start items c.args.asked k r q) none (c.shown_now-set.ensures r q) in
    subst (λ (k : ℕ). Has set r q ↔ ShowsAfter t c.args.start items c.args.asked k r q) (sym none) (shows_none t c.args.start items c.args.asked r q (Has set r q) now)

pub loop-operation-init : goal.loop-operation-init
loop-operation-init c r q =
    let s = c.args.setting.now in
    let items = s.stock.now.operations.items in
    gathered_first (ShowsNow s.table.now c.args.start items c.args.asked c.args.count r q) (ShowsPart s.table.now c.args.start items c.args.asked c.args.count r q)
    (Has c.shown_now-set.result r q) (c.shown_now-set.ensures r q)

pub after-requires : goal.after-requires
after-requires c =
    let s = c.args.setting.now in
    let less = c.in-Some.ensures in
    record {
      t = s.table.now;
      m = s.size - 1;
      stock = less.1.0;
      shown_are = less.1.2;
      count = omega (arith, c.requires.few, c.if-count-eq0.false);
      asked = c.requires.asked;
      known = c.apply.ensures.next;
    }

pub loop-operation-preserved : goal.loop-operation-preserved
loop-operation-preserved c r q =
    let s = c.args.setting.now in
    let t = s.table.now in
    let u = c.args.start in
    let k = c.args.count in
    let a = c.args.asked in
    let items = s.stock.now.operations.items in
    let o = c.loop-operation.operation in
    let base = ShowsNow t u items a k r q in
    let part = ShowsPart t u items a k r q in
    let i = c.loop-operation.invariant r q in
    elim c.match-less.branch [
      | in-Some w ↦ (
          let less = w.in-Some.ensures in
          let next : w.apply.result.1.0 ≡ (transition t o u).1 = ap (λ (p : ℕ × ℕ). p.1) w.apply.ensures.value in
          let new : Type 0 = Has w.after.result.now r q in
          let here = w.after.ensures t (s.size - 1) less.1.0 less.1.2 (omega (arith, c.requires.few, c.if-count-eq0.false)) c.requires.asked w.apply.ensures.next r q in
          subst (λ (set : PairSet). Gathered base part (o + 1) (Has set r q)) (sym w.set-is)
          (gathered_more base part o (Has c.loop-operation.set r q) new (Has w.add_all.new.self r q) i (w.add_all.ensures r q)
          (shows_part_is t u items o a k r q less.1.0 less.1.1 new (subst (λ (n : ℕ). new ↔ ShowsAfter t n less.1.0 a (k - 1) r q) next here)))
          )
      | in_default w ↦ subst (λ (set : PairSet). Gathered base part (o + 1) (Has set r q)) (sym w.set-is)
          (gathered_none base part o (Has c.loop-operation.set r q) i (shows_part_none t u items o a k r q w.in_default.ensures))
    ]

pub returns : goal.returns
returns c r q =
    let s = c.args.setting.now in
    let t = s.table.now in
    let items = s.stock.now.operations.items in
    let is = c.requires.setting in
    let base = ShowsNow t c.args.start items c.args.asked c.args.count r q in
    let part = ShowsPart t c.args.start items c.args.asked c.args.count r q in
    let end : c.loop-operation.operation ≡ length t.operations = omega (arith, c.operations-operation-end.ensures.number, c.loop-operation-test.false, c.loop-operation.auto.operation-end) in
    shows_all t c.args.start items (removal_of is.before items s.stock.now.less is.stock_is.smaller) (length t.operations) is.stock_is.known c.args.count
    (omega (arith, c.if-count-eq0.false)) c.args.asked r q (Has c.loop-operation.set r q)
    (subst (λ (k : ℕ). Gathered base part k (Has c.loop-operation.set r q)) end (c.loop-operation.invariant r q))
