use Rattle.std.proofs.Common.{ℕ, List, ◌<◌, inl, inr, arith, get_or, length, subst, sym, ap}
use Rattle.std.specs.Prelude.{IsBitSet}
use Rattle.std.proofs.lemmas.Option.{slice_get-get_or}
use Rattle.cn_outcomes.proofs.Packing.{below_or_last}
use Rattle.cn_stocks.proofs.StockLemmas.{items_within, stock_at}
use Rattle.cn_stocks.proofs.Times.{same_has, same_rest}
use Rattle.cn_stocks.specs.Words.{HaveSame, times}
use Rattle.cn_divisions.proofs.Splitting.{split_same}
use Rattle.cn_divisions.proofs.levels.Setting.less_starts.Goals as goal
use Rattle.cn_divisions.proofs.levels.Setting.less_starts.Goals.{in-Some, in_default}

pub bounds-sets-place : goal.bounds-sets-place
bounds-sets-place c =
    let level = c.args.self.now.level.now in
    let h = c.requires.setting.stock_is.smaller.some c.loop-operation.operation c.in-Some.place c.in-Some.is in
    omega (arith, items_within level.stocks.list.items c.in-Some.place h.0 h.1, c.requires.long, ap length c.as_slice-sets.ensures.value)

pub loop-operation-preserved : goal.loop-operation-preserved
loop-operation-preserved c sight are x rest l same q u split =
    let s = c.args.self.now in
    let level = s.level.now in
    let items = s.stock.now.operations.items in
    let o = c.loop-operation.operation in
    elim c.match-self-operation.branch [
      | in-Some w ↦ (
          let place = w.in-Some.place in
          let added = w.union-set.ensures q in
          subst (λ (set : ℕ). IsBitSet set q) (sym w.set-is) (added.1 (elim (below_or_last x o l) [
            | inl a ↦ inl (c.loop-operation.invariant sight are x rest a same q u split)
            | inr e ↦ inr (
                let h = c.requires.setting.stock_is.smaller.some o place w.in-Some.is in
                let stock = stock_at level.stocks.list.items place h.0 h.1 in
                let sets = c.args.starts.now.sets.items in
                let inside : place < length sets = omega (arith, items_within level.stocks.list.items place h.0 h.1, are.0) in
                let left : HaveSame rest stock.0.operations.items = subst (HaveSame rest) (sym stock.2) (same_rest x o items rest h.0 e same h.2) in
                subst (λ (xs : List ℕ). IsBitSet (get_or xs place 0) q) (sym c.as_slice-sets.ensures.value)
                (are.1 place (get_or sets place 0) (slice_get-get_or sets place 0 inside) stock.0 stock.1 q u (split_same s.table.now sight q rest stock.0.operations.items left split))
                )
          ]))
          )
      | in_default w ↦ subst (λ (set : ℕ). IsBitSet set q) (sym w.set-is) (elim (below_or_last x o l) [
        | inl a ↦ c.loop-operation.invariant sight are x rest a same q u split
        | inr e ↦ absurd (omega (arith, same_has x items rest same, c.requires.setting.stock_is.smaller.none o w.in_default.is, ap (λ (k : ℕ). times k items) e))
      ])
    ]

pub returns : goal.returns
returns c sight are x rest same =
    let items = c.args.self.now.stock.now.operations.items in
    let known = c.requires.setting.stock_is.known x (same_has x items rest same) in
    c.loop-operation.invariant sight are x rest (omega (arith, known, c.loop-operation-test.false, c.operations-operation-end.ensures.number)) same
