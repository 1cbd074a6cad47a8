use Rattle.std.proofs.Common.{ℕ, ◌≡◌, ◌+◌, ◌↔◌, ap, arith, length, subst, sym}
use Rattle.cn_table.specs.TypeTable.{transition}
use Rattle.cn_stocks.specs.declared.pair_sets.PairSet.{PairSet}
use Rattle.cn_stocks.specs.Pairs.{Has}
use Rattle.cn_stocks.specs.Reach.{ShowsAtOnce, ShowsWithin}
use Rattle.cn_stocks.proofs.StockLemmas.{removal_of}
use Rattle.cn_stocks.proofs.Steps.{Gathered, ShowsPart, gathered_first, gathered_more, gathered_none, shown_all, shows_part_is, shows_part_none}
use Rattle.cn_telling.proofs.shown.shown_from.Goals as goal
use Rattle.cn_telling.proofs.shown.shown_from.Goals.{in-Some, in_default}

pub loop-operation-init : goal.loop-operation-init
loop-operation-init c r q =
    let s = c.args.asking.now.setting in
    let items = s.stock.now.operations.items in
    gathered_first (ShowsAtOnce s.table.now c.args.start items c.args.asking.now.asked r q) (ShowsPart s.table.now c.args.start items c.args.asking.now.asked r q) (Has c.shown_at_once-set.result r q)
    (c.shown_at_once-set.ensures r q)

pub loop-operation-preserved : goal.loop-operation-preserved
loop-operation-preserved c r q =
    let t = c.args.asking.now.setting.table.now in
    let u = c.args.start in
    let items = c.args.asking.now.setting.stock.now.operations.items in
    let a = c.args.asking.now.asked in
    let o = c.loop-operation.operation in
    let base = ShowsAtOnce t u items a r q in
    let part = ShowsPart t u items a r q in
    let i = c.loop-operation.invariant r q in
    elim c.match-less_shown.branch [
      | in-Some w ↦ (
          let less = w.in-Some.ensures in
          let next : w.apply.result.1.0 ≡ (transition t o u).1 = ap (λ (p : ℕ × ℕ). p.1) w.apply.ensures.value in
          let new : Type 0 = ShowsWithin t w.apply.result.1.0 less.0 a r q in
          let added = w.add_to.ensures t less.0 a less.2 w.apply.ensures.next r q in
          subst (λ (set : PairSet). Gathered base part (o + 1) (Has set r q)) (sym w.set-is)
          (gathered_more base part o (Has c.loop-operation.set r q) new (Has w.add_to.new.set r q) i added
          (shows_part_is t u items o less.0 less.1 a r q new (subst (λ (n : ℕ). new ↔ ShowsWithin t n less.0 a r q) next (λ x. x, λ x. x))))
          )
      | in_default w ↦ subst (λ (set : PairSet). Gathered base part (o + 1) (Has set r q)) (sym w.set-is)
          (gathered_none base part o (Has c.loop-operation.set r q) i (shows_part_none t u items o a r q w.in_default.ensures))
    ]

pub returns : goal.returns
returns c r q =
    let s = c.args.asking.now.setting in
    let t = s.table.now in
    let items = s.stock.now.operations.items in
    let stock = c.requires.asking.over.stock_is in
    let base = ShowsAtOnce t c.args.start items c.args.asking.now.asked r q in
    let part = ShowsPart t c.args.start items c.args.asking.now.asked r q in
    let end : c.loop-operation.operation ≡ length t.operations = omega (arith, c.operations-operation-end.ensures.number, c.loop-operation-test.false, c.loop-operation.auto.operation-end) in
    shown_all t c.args.start items (removal_of c.requires.asking.before items s.stock.now.less stock.smaller) (length t.operations) stock.known c.args.asking.now.asked r q (Has c.loop-operation.set r q)
    (subst (λ (k : ℕ). Gathered base part k (Has c.loop-operation.set r q)) end (c.loop-operation.invariant r q))
