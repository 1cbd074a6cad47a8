use Rattle.std.proofs.Common.{ℕ, ◌≡◌, ◌+◌, ◌-◌, ◌↔◌, ap, arith, length, subst, sym}
use Rattle.std.specs.Prelude.{IsBitSet}
use Rattle.cn_table.specs.TypeTable.{transition}
use Rattle.cn_outcomes.proofs.LastProcess.{zero_has_none}
use Rattle.cn_stocks.proofs.StockLemmas.{removal_of}
use Rattle.cn_stocks.proofs.Steps.{Gathered, gathered_first, gathered_more, gathered_none}
use Rattle.cn_collisions.specs.Exact.{EndsAfter}
use Rattle.cn_collisions.proofs.ExactWords.{EndsPart, ends_all, ends_part_is, ends_part_none}
use Rattle.cn_collisions.proofs.word_sets.ends_by_first.Goals as goal
use Rattle.cn_collisions.proofs.word_sets.ends_by_first.Goals.{in-Some, in_default}

pub loop-operation-init : goal.loop-operation-init
loop-operation-init c q =
    let s = c.args.setting.now in
    gathered_first ⊥ (EndsPart s.table.now c.args.start s.stock.now.operations.items c.args.count q) (IsBitSet 0 q) (λ b. zero_has_none q b, λ b. absurd b)

pub after-requires : goal.after-requires
after-requires c =
    let s = c.args.setting.now in
    let less = c.in-Some.ensures in
    record {
      t = s.table.now;
      m = s.size - 1;
      stock = less.1.0;
      ends_are = less.1.2;
      count = omega (arith, c.requires.few, c.requires.some);
      small = omega (arith, c.apply.ensures.next, c.states-states.ensures.number, c.states-states.ensures.range.1);
    }

pub loop-operation-preserved : goal.loop-operation-preserved
loop-operation-preserved c q =
    let s = c.args.setting.now in
    let t = s.table.now in
    let u = c.args.start in
    let k = c.args.count in
    let items = s.stock.now.operations.items in
    let o = c.loop-operation.operation in
    let i = c.loop-operation.invariant q in
    elim c.match-less.branch [
      | in-Some w ↦ (
          let less = w.in-Some.ensures in
          let next : w.apply.result.1.0 ≡ (transition t o u).1 = ap (λ (p : ℕ × ℕ). p.1) w.apply.ensures.value in
          let new : Type 0 = IsBitSet w.after.result q in
          let here : new ↔ EndsAfter t w.apply.result.1.0 less.1.0 (k - 1) q =
          w.after.ensures t (s.size - 1) less.1.0 less.1.2 (omega (arith, c.requires.few, c.requires.some)) w.apply.ensures.next q in
          subst (λ (set : ℕ). Gathered ⊥ (EndsPart t u items k q) (o + 1) (IsBitSet set q)) (sym w.set-is)
          (gathered_more ⊥ (EndsPart t u items k q) o (IsBitSet c.loop-operation.set q) new (IsBitSet w.union-set.result q) i (w.union-set.ensures q)
          (ends_part_is t u items o k q less.1.0 less.1.1 new (subst (λ (n : ℕ). new ↔ EndsAfter t n less.1.0 (k - 1) q) next here)))
          )
      | in_default w ↦ subst (λ (set : ℕ). Gathered ⊥ (EndsPart t u items k q) (o + 1) (IsBitSet set q)) (sym w.set-is)
          (gathered_none ⊥ (EndsPart t u items k q) o (IsBitSet c.loop-operation.set q) i (ends_part_none t u items o k q w.in_default.ensures))
    ]

pub returns : goal.returns
returns c q =
    let s = c.args.setting.now in
    let t = s.table.now in
    let items = s.stock.now.operations.items in
    let is = c.requires.setting in
    let end : c.loop-operation.operation ≡ length t.operations = omega (arith, c.operations-operation-end.ensures.number, c.loop-operation-test.false, c.loop-operation.auto.operation-end) in
    ends_all t c.args.start items (removal_of is.before items s.stock.now.less is.stock_is.smaller) (length t.operations) is.stock_is.known c.args.count c.requires.some q
    (IsBitSet c.loop-operation.set q)
    (subst (λ (k : ℕ). Gathered ⊥ (EndsPart t c.args.start items c.args.count q) k (IsBitSet c.loop-operation.set q)) end (c.loop-operation.invariant q))
