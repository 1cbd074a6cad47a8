use Rattle.std.proofs.Common.{ℕ, ◌≡◌, ◌+◌, ◌⊎◌, ◌↔◌, inl, inr, ap, arith, get_or, length, subst, sym}
use Rattle.std.specs.Prelude.{IsBitSet}
use Rattle.cn_table.specs.TypeTable.{transition}
use Rattle.cn_outcomes.proofs.LastProcess.{zero_has_none}
use Rattle.cn_stocks.specs.Reach.{EndsWithin}
use Rattle.cn_stocks.proofs.StockLemmas.{removal_of}
use Rattle.cn_stocks.proofs.Steps.{EndsPart, Gathered, ends_all, ends_part_is, ends_part_none, gathered_first, gathered_more, gathered_none}
use Rattle.cn_telling.proofs.ends.ends_from.Goals as goal
use Rattle.cn_telling.proofs.ends.ends_from.Goals.{in-Some, in_default}

pub loop-operation-init : goal.loop-operation-init
loop-operation-init c q =
    let s = c.args.setting.now in
    gathered_first (q ≡ c.args.start) (EndsPart s.table.now c.args.start s.stock.now.operations.items q) (IsBitSet c.with-set.result q)
    (λ b. elim ((c.with-set.ensures q).0 b) [ inl z ↦ absurd (zero_has_none q z) | inr e ↦ e ], λ e. (c.with-set.ensures q).1 (inr e))

pub loop-operation-preserved : goal.loop-operation-preserved
loop-operation-preserved c q =
    let t = c.args.setting.now.table.now in
    let u = c.args.start in
    let items = c.args.setting.now.stock.now.operations.items in
    let o = c.loop-operation.operation in
    let i = c.loop-operation.invariant q in
    elim c.match-less_ends.branch [
      | in-Some w ↦ (
          let less = w.in-Some.ensures in
          let next : w.apply.result.1.0 ≡ (transition t o u).1 = ap (λ (p : ℕ × ℕ). p.1) w.apply.ensures.value in
          let here : ℕ → Type 0 = λ n. IsBitSet (get_or w.in-Some.ends.now.states n 0) q ↔ EndsWithin t n less.0 q in
          subst (λ (set : ℕ). Gathered (q ≡ u) (EndsPart t u items q) (o + 1) (IsBitSet set q)) (sym w.set-is)
          (gathered_more (q ≡ u) (EndsPart t u items q) o (IsBitSet c.loop-operation.set q) (IsBitSet (get_or w.in-Some.ends.now.states (transition t o u).1 0) q) (IsBitSet w.union-set.result q) i
          (subst (λ (n : ℕ). IsBitSet w.union-set.result q ↔ (IsBitSet c.loop-operation.set q ⊎ IsBitSet (get_or w.in-Some.ends.now.states n 0) q)) next (w.union-set.ensures q))
          (ends_part_is t u items o less.0 less.1 q (IsBitSet (get_or w.in-Some.ends.now.states (transition t o u).1 0) q) (subst here next (less.2 w.apply.result.1.0 w.apply.ensures.next q))))
          )
      | in_default w ↦ subst (λ (set : ℕ). Gathered (q ≡ u) (EndsPart t u items q) (o + 1) (IsBitSet set q)) (sym w.set-is)
          (gathered_none (q ≡ u) (EndsPart t u items q) o (IsBitSet c.loop-operation.set q) i (ends_part_none t u items o q w.in_default.ensures))
    ]

pub returns : goal.returns
returns c q =
    let s = c.args.setting.now in
    let t = s.table.now in
    let items = s.stock.now.operations.items in
    let stock = c.requires.setting.1.stock_is in
    let end : c.loop-operation.operation ≡ length t.operations = omega (arith, c.operations-operation-end.ensures.number, c.loop-operation-test.false, c.loop-operation.auto.operation-end) in
    ends_all t c.args.start items (removal_of c.requires.setting.0 items s.stock.now.less stock.smaller) (length t.operations) stock.known q (IsBitSet c.loop-operation.set q)
    (subst (λ (k : ℕ). Gathered (q ≡ c.args.start) (EndsPart t c.args.start items q) k (IsBitSet c.loop-operation.set q)) end (c.loop-operation.invariant q))
