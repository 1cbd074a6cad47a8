use Rattle.std.proofs.Common.{ℕ, ◌≡◌, ◌<◌, ◌++◌, ◌∷◌, List, [], ap, arith, get_or, inl, inr, length, sym, ◌∙◌}
use Rattle.std.proofs.Math.ListN.{get_or-append}
use Rattle.std.proofs.Math.Seq.{get_or-append_seam}
use Rattle.cn_outcomes.proofs.Packing.{below_or_last}
use Rattle.cn_stocks.proofs.StockLemmas.{count_push}
use Rattle.cn_stocks.proofs.Times.{times_of_place}
use Rattle.cn_meetings.specs.Sights.{sight_of}
use Rattle.cn_divisions.proofs.ProcessTeams.{finest_by_operation, teams_small}
use Rattle.cn_divisions.proofs.teams.teams_by_operation.Goals as goal

pub bounds-of_operations-operations : goal.bounds-of_operations-operations
bounds-of_operations-operations c =
    let items = c.args.setting.now.stock.now.operations.items in
    let p = c.loop-process.process in
    let e = c.as_slice-operations.ensures.value in
    let l : p < length items = omega (arith, c.loop-process-test.true, ap length e) in
    let known = c.requires.setting.stock_is.known (get_or items p 0) (times_of_place items p l) in
    omega (arith, known, c.operations-operations.ensures.number, c.operations-operations.ensures.range.1, ap (λ (xs : List ℕ). get_or xs p 0) e)

pub loop-process-preserved : goal.loop-process-preserved
loop-process-preserved c =
    let items = c.args.setting.now.stock.now.operations.items in
    let comp = c.components-of_operations.result in
    let k = c.loop-process.process in
    let old = c.loop-process.teams.items in
    let new = c.push.new.self.items in
    let i = c.loop-process.invariant in
    let e = c.as_slice-operations.ensures.value in
    let x : ℕ = get_or comp (get_or c.as_slice-operations.result.now k 0) 0 in
    record {
      long = count_push old new x k c.push.ensures.items i.long;
      each = λ p l. ap (λ (xs : List ℕ). get_or xs p 0) c.push.ensures.items ∙ elim (below_or_last p k l) [
        | inl u ↦ get_or-append old (x ∷ []) 0 p (omega (arith, u, i.long)) ∙ i.each p u
        | inr u ↦ (
            let at : p ≡ length old = omega (arith, u, i.long) in
            ap (λ (n : ℕ). get_or (old ++ x ∷ []) n 0) at ∙ (get_or-append_seam old x [] 0 ∙ (ap (λ (xs : List ℕ). get_or comp (get_or xs k 0) 0) e ∙ ap (λ (n : ℕ). get_or comp (get_or items n 0) 0) (sym u)))
            )
      ];
    }

pub returns-clause-teams : goal.returns-clause-teams
returns-clause-teams c =
    let s = c.args.setting.now in
    let items = s.stock.now.operations.items in
    let i = c.loop-process.invariant in
    let end : c.loop-process.process ≡ length items = omega (arith, c.loop-process-test.false, c.loop-process.auto.process-end, ap length c.as_slice-operations.ensures.value) in
    teams_small s.table.now (sight_of c.args.look.now.sight) c.args.start items (length s.table.now.operations) c.requires.setting.stock_is.known (omega (arith, c.operations-operations.ensures.number, c.operations-operations.ensures.range.1))
    c.loop-process.teams.items c.components-of_operations.result (λ p l. i.each p (omega (arith, l, end))) (i.long ∙ end) c.components-of_operations.ensures.small

pub returns-clause-finest : goal.returns-clause-finest
returns-clause-finest c =
    let s = c.args.setting.now in
    let items = s.stock.now.operations.items in
    let i = c.loop-process.invariant in
    let end : c.loop-process.process ≡ length items = omega (arith, c.loop-process-test.false, c.loop-process.auto.process-end, ap length c.as_slice-operations.ensures.value) in
    finest_by_operation s.table.now (sight_of c.args.look.now.sight) c.args.start items (length s.table.now.operations) c.requires.setting.stock_is.known (omega (arith, c.operations-operations.ensures.number, c.operations-operations.ensures.range.1))
    c.loop-process.teams.items c.components-of_operations.result (λ p l. i.each p (omega (arith, l, end))) c.requires.many c.components-of_operations.ensures.are
