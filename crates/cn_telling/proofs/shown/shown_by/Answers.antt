use Rattle.std.proofs.Common.{ℕ, ◌≡◌, ◌↔◌, ap, arith, subst, sym}
use Rattle.cn_table.specs.TypeTable.{transition}
use Rattle.cn_stocks.specs.declared.pair_sets.PairSet.{PairSet}
use Rattle.cn_stocks.specs.Pairs.{Has}
use Rattle.cn_stocks.specs.Reach.{ShowsAtOnce, ShowsWithin}
use Rattle.cn_stocks.proofs.StockLemmas.{removal_of}
use Rattle.cn_stocks.proofs.Steps.{shown_by_is, shown_by_none, shows_part_is}
use Rattle.cn_telling.proofs.shown.shown_by.Goals as goal
use Rattle.cn_telling.proofs.shown.shown_by.Goals.{then-first-asking, else-first-asking}

pub returns-in-Some : goal.returns-in-Some
returns-in-Some c r q =
    let s = c.args.asking.now.setting in
    let t = s.table.now in
    let u = c.args.start in
    let items = s.stock.now.operations.items in
    let f = c.args.first in
    let a = c.args.asking.now.asked in
    let at_once : Type 0 = (f ≡ a) × ShowsAtOnce t u items a r q in
    let base : Has c.if-first-asking.set r q ↔ at_once = elim c.if-first-asking.branch [
      | then-first-asking w ↦ subst (λ (set : PairSet). Has set r q ↔ at_once) (sym w.set-is)
          (λ h. (w.if-first-asking.true, (w.shown_at_once-set.ensures r q).0 h), λ p. (w.shown_at_once-set.ensures r q).1 p.1)
      | else-first-asking w ↦ subst (λ (set : PairSet). Has set r q ↔ at_once) (sym w.set-is)
          (λ h. absurd (w.none-set.ensures r q h), λ p. absurd (omega (arith, p.0, w.if-first-asking.false)))
    ] in
    let less = c.in-Some.ensures in
    let next : c.apply.result.1.0 ≡ (transition t f u).1 = ap (λ (p : ℕ × ℕ). p.1) c.apply.ensures.value in
    let new : Type 0 = ShowsWithin t c.apply.result.1.0 less.0 a r q in
    shown_by_is t u items (removal_of c.requires.asking.before items s.stock.now.less c.requires.asking.over.stock_is.smaller) f a r q (Has c.if-first-asking.set r q) new
    (Has c.add_to.new.set r q) base
    (shows_part_is t u items f less.0 less.1 a r q new (subst (λ (n : ℕ). new ↔ ShowsWithin t n less.0 a r q) next (λ x. x, λ x. x))) (c.add_to.ensures t less.0 a less.2 c.apply.ensures.next r q)

pub returns-in_default : goal.returns-in_default
returns-in_default c r q =
    let s = c.args.asking.now.setting in
    let t = s.table.now in
    let u = c.args.start in
    let items = s.stock.now.operations.items in
    let f = c.args.first in
    let a = c.args.asking.now.asked in
    let at_once : Type 0 = (f ≡ a) × ShowsAtOnce t u items a r q in
    let base : Has c.if-first-asking.set r q ↔ at_once = elim c.if-first-asking.branch [
      | then-first-asking w ↦ subst (λ (set : PairSet). Has set r q ↔ at_once) (sym w.set-is)
          (λ h. (w.if-first-asking.true, (w.shown_at_once-set.ensures r q).0 h), λ p. (w.shown_at_once-set.ensures r q).1 p.1)
      | else-first-asking w ↦ subst (λ (set : PairSet). Has set r q ↔ at_once) (sym w.set-is)
          (λ h. absurd (w.none-set.ensures r q h), λ p. absurd (omega (arith, p.0, w.if-first-asking.false)))
    ] in
    shown_by_none t u items f a r q (Has c.if-first-asking.set r q) c.in_default.ensures base
