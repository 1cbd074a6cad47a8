use Rattle.std.proofs.Common.{◌↔◌, ◌+◌, ◌≤◌, ◌++◌, ◌∷◌, [], ◌∙◌, inl, inr, ℕ, List, IsTrue, Contains, get_or, length, subst, sym, true≢false, arith}
use Rattle.std.proofs.lemmas.Result.{IfOk-weaker}
use Rattle.cn_joins.specs.Joins.{Join}
use Rattle.cn_stock_check.specs.Needs.{AreNeedsOf, ConnectWith, IsBegun, IsLeftOut}
use Rattle.cn_stock_check.specs.declared.needs.Need.{Need}
use Rattle.cn_stock_check.proofs.StockLemmas.{AreSettled, all_hold, begun_next, begun_with, last_holds, needs_met, needs_with, none_more, small_counts, with_fails}
use Rattle.cn_stock_check.proofs.stocks.+all_connected.Goals as goal
use Rattle.cn_stock_check.proofs.stocks.+all_connected.Goals.{then-not-is_left_out+in_ok-with_it+else-not-with_it, else-not-is_left_out}

pub returns-then-more-eq0 : goal.returns-then-more-eq0
returns-then-more-eq0 t c = λ joins start stock are begun.
    none_more c.args.table.now joins start stock c.args.next (length c.args.table.now.operations) c.args.needs.now c.args.counts c.args.more c.are_connected.result are begun c.requires.room c.are_connected.ensures
    (omega arith)

pub returns-then-not-with_it : goal.returns-then-not-with_it
returns-then-not-with_it t c = λ joins start stock are begun.
    let table = c.args.table.now in
    let next = c.args.next in
    let kept : ¬ IsLeftOut table stock next = λ h. true≢false (sym ((c.is_left_out.ensures stock begun.counted).1 h) ∙ c.if-not-is_left_out.true) in
    with_fails table joins start stock next (length table.operations) c.args.more (omega arith) c.requires.next c.in_ok-with_it.with_it
    (c.in_ok-with_it.ensures joins start (stock ++ next ∷ []) (needs_with joins start next stock c.args.needs.now are) (begun_with table next stock c.args.counts (omega arith) kept begun))
    c.if-not-with_it.true

pub returns-then-next-operations : goal.returns-then-next-operations
returns-then-next-operations t c = λ joins start stock are begun.
    let table = c.args.table.now in
    let next = c.args.next in
    let settled : AreSettled table joins start stock next (length table.operations) c.args.more = elim c.if-not-is_left_out.branch [
      | then-not-is_left_out+in_ok-with_it+else-not-with_it w ↦ (
          let kept : ¬ IsLeftOut table stock next = λ h. true≢false (sym ((c.is_left_out.ensures stock begun.counted).1 h) ∙ w.if-not-is_left_out.true) in
          inl ((w.in_ok-with_it.ensures joins start (stock ++ next ∷ []) (needs_with joins start next stock c.args.needs.now are) (begun_with table next stock c.args.counts (omega arith) kept begun)).0 w.if-not-with_it.false)
          )
      | else-not-is_left_out w ↦ inr ((c.is_left_out.ensures stock begun.counted).0 w.if-not-is_left_out.false)
    ] in
    last_holds table joins start stock next (length table.operations) c.args.more (omega arith) settled (omega (arith, c.if-next-operations.true, c.operations.ensures.number))

pub returns : goal.returns
returns t c =
    let table = c.args.table.now in
    let next = c.args.next in
    let end = length table.operations in
    let more = c.args.more in
    let met : List Need = c.as_slice.result.now in
    IfOk-weaker c.all_connected-2.result
    (λ answer. (joins : List Join) (start : ℕ) (stock : List ℕ) → AreNeedsOf joins start (next + 1) stock met → IsBegun table (next + 1) c.args.counts stock
    → IsTrue answer ↔ ConnectWith table joins start stock (next + 1) end more)
    (λ answer. (joins : List Join) (start : ℕ) (stock : List ℕ) → AreNeedsOf joins start next stock c.args.needs.now → IsBegun table next c.args.counts stock → IsTrue answer ↔ ConnectWith table joins start stock next end more)
    (λ answer h joins start stock are begun.
    (let settled : AreSettled table joins start stock next end more = elim c.if-not-is_left_out.branch [
      | then-not-is_left_out+in_ok-with_it+else-not-with_it w ↦ (
          let kept : ¬ IsLeftOut table stock next = λ h. true≢false (sym ((c.is_left_out.ensures stock begun.counted).1 h) ∙ w.if-not-is_left_out.true) in
          inl ((w.in_ok-with_it.ensures joins start (stock ++ next ∷ []) (needs_with joins start next stock c.args.needs.now are) (begun_with table next stock c.args.counts (omega arith) kept begun)).0 w.if-not-with_it.false)
          )
      | else-not-is_left_out w ↦ inr ((c.is_left_out.ensures stock begun.counted).0 w.if-not-is_left_out.false)
    ] in
    all_hold table joins start stock next end more (omega arith) settled answer
    (h joins start stock
    (needs_met joins start next stock c.args.needs.now are c.args.counts begun.counted (small_counts c.args.counts stock more begun.counted c.requires.room) met
    (λ need. subst (λ (xs : List Need). Contains xs need ↔ (Contains c.args.needs.now need × (get_or need.counts next 0 ≤ get_or c.args.counts next 0))) (sym c.as_slice.ensures.value) (c.in_ok-met.ensures.met need)))
    (begun_next table next stock c.args.counts begun)))) c.all_connected-2.ensures
