use Rattle.std.proofs.Common.{◌≡◌, ◌-◌, ℕ, List, All, inl, inr, ap, arith, length, get_or, refl, subst, sym, ◌∙◌, true≢false}
use Rattle.std.specs.Prelude.{IsBitSet, slice_index}
use Rattle.cn_outcomes.proofs.LastProcess.{zero_has_none}
use Rattle.cn_stocks.proofs.SplitLemmas.{uncovered}
use Rattle.cn_stocks.proofs.StockLemmas.{same_items}
use Rattle.cn_stocks.proofs.Times.{times_of_place}
use Rattle.cn_joins.specs.Joins.{Join, beginning}
use Rattle.cn_telling.proofs.CellLemmas.{within_long}
use Rattle.cn_join_find.specs.Crossing.{IsCrossing, NoneCrosses}
use Rattle.cn_join_find.specs.Reached.{AreReached, IsJoinFrom}
use Rattle.cn_join_find.proofs.CrossLemmas.{crosses_other, none_match, none_other}
use Rattle.cn_join_find.proofs.ReachLemmas.{all_more, all_reached, greater_set, more_one, more_trans, none_more, reached_across}
use Rattle.cn_join_find.proofs.connect.connect_within.Goals as goal

pub bounds-stock-0 : goal.bounds-stock-0
bounds-stock-0 c = omega (arith, c.requires.some)

pub with-first-requires : goal.with-first-requires
with-first-requires c =
    let stock = c.args.stock.now in
    let known = c.requires.known (get_or stock 0 0) (times_of_place stock 0 (omega (arith, c.requires.some))) in
    omega (arith, known, c.operations-operations.ensures.number, c.operations-operations.ensures.range.1)

pub reached-set-requires : goal.reached-set-requires
reached-set-requires c = subst (All (IsJoinFrom c.args.cells.now.table.now c.args.start)) (sym c.as_slice.ensures.value) c.requires.joins

pub loop-is_whole-init : goal.loop-is_whole-init
loop-is_whole-init c =
    let first = slice_index c.args.stock.now 0 in
    let t = c.args.cells.now.table.now in
    let joins = c.args.joins.now.items in
    let only : AreReached joins c.args.start c.args.stock.now first c.with-first.result = λ chosen keeps g b. elim ((c.with-first.ensures g).0 b) [ inl z ↦ absurd (zero_has_none g z) | inr e ↦ ap chosen e ] in
    record {
      first_in = c.reached-set.ensures.larger first ((c.with-first.ensures first).1 (inr refl));
      reached = subst (λ (l : List Join). AreReached l c.args.start c.args.stock.now first c.reached-set.result) c.as_slice.ensures.value
          (c.reached-set.ensures.reached first (subst (λ (l : List Join). AreReached l c.args.start c.args.stock.now first c.with-first.result) (sym c.as_slice.ensures.value) only));
      more = none_more t c.args.start joins;
      are = c.requires.joins;
      whole = c.covers-is_whole.ensures;
    }

pub crossing-requires-clause-some : goal.crossing-requires-clause-some
crossing-requires-clause-some c = c.requires.stock.1.some

pub crossing-requires-clause-short : goal.crossing-requires-clause-short
crossing-requires-clause-short c whole at =
    let cells = c.args.cells.now in
    let are = c.requires.stock in
    let same = same_items cells.stocks.now (length cells.stocks.now - 1) are.0 whole are.1.last at in
    let long = within_long c.args.stock.now are.0 (λ o. omega (arith, are.2 o)) in
    omega (arith, long, ap length same, c.requires.short)

pub returns-in_default : goal.returns-in_default
returns-in_default c =
    let t = c.args.cells.now.table.now in
    let stock = c.args.stock.now in
    let set = c.loop-is_whole.set in
    let are = c.requires.stock in
    let none = none_match (NoneCrosses t c.args.start are.0 set) (IsCrossing t c.args.start are.0 set) c.in_ok-found.found c.in_default.not-Some (c.in_ok-found.ensures are.0 are.1.last) in
    record {
      more = c.loop-is_whole.invariant.more;
      part = record {
        inside = (slice_index stock 0, times_of_place stock 0 (omega (arith, c.requires.some)), c.loop-is_whole.invariant.first_in);
        outside = uncovered (length t.operations) stock set c.requires.known (λ all. true≢false (sym (c.loop-is_whole.invariant.whole.1 all) ∙ c.loop-is_whole-test.true));
        apart = none_other t c.args.start set are.0 stock are.2 none;
      };
    }

pub first_operation-requires : goal.first_operation-requires
first_operation-requires c =
    let found = rw c.in-Some.is at c.in_ok-found.ensures in
    let are = c.requires.stock in
    let cross = crosses_other c.args.cells.now.table.now c.args.start c.loop-is_whole.set are.0 c.args.stock.now c.in-Some.join are.2 (found are.0 are.1.last) in
    let place = cross.is_join.second.has_place in
    let long = ap (λ (x : Join). length x.second.word) c.join.view_is in
    omega (arith, place, long)

pub with-with_second-requires : goal.with-with_second-requires
with-with_second-requires c =
    let found = rw c.in-Some.is at c.in_ok-found.ensures in
    let are = c.requires.stock in
    let cross = crosses_other c.args.cells.now.table.now c.args.start c.loop-is_whole.set are.0 c.args.stock.now c.in-Some.join are.2 (found are.0 are.1.last) in
    let j = c.in-Some.join in
    let e : c.first_operation.result ≡ beginning j.second = c.first_operation.ensures ∙ ap (λ (x : Join). beginning x.second) c.join.view_is in
    let known = cross.is_join.second.known (get_or j.second.word 0 0) (times_of_place j.second.word 0 (omega (arith, cross.is_join.second.has_place))) in
    omega (arith, e, known, c.operations-operations.ensures.number, c.operations-operations.ensures.range.1)

pub reached-set-requires-in-loop-is_whole : goal.reached-set-requires-in-loop-is_whole
reached-set-requires-in-loop-is_whole c =
    let t = c.args.cells.now.table.now in
    let found = rw c.in-Some.is at c.in_ok-found.ensures in
    let are = c.requires.stock in
    let cross = crosses_other c.args.cells.now.table.now c.args.start c.loop-is_whole.set are.0 c.args.stock.now c.in-Some.join are.2 (found are.0 are.1.last) in
    let old = c.loop-is_whole.joins.items in
    let new = c.push.new.self.items in
    let one = more_one t c.args.start old new c.in-Some.join c.in_ok-push.ensures.items (cross.is_join, cross.within.same_start) in
    subst (All (IsJoinFrom t c.args.start)) (sym c.as_slice-in-loop-is_whole.ensures.value) (all_more t c.args.start old new one c.loop-is_whole.invariant.are)

pub loop-is_whole-preserved : goal.loop-is_whole-preserved
loop-is_whole-preserved c =
    let first = slice_index c.args.stock.now 0 in
    let t = c.args.cells.now.table.now in
    let i = c.loop-is_whole.invariant in
    let found = rw c.in-Some.is at c.in_ok-found.ensures in
    let are = c.requires.stock in
    let cross = crosses_other c.args.cells.now.table.now c.args.start c.loop-is_whole.set are.0 c.args.stock.now c.in-Some.join are.2 (found are.0 are.1.last) in
    let j = c.in-Some.join in
    let old = c.loop-is_whole.joins.items in
    let new = c.push.new.self.items in
    let e : c.first_operation.result ≡ beginning j.second = c.first_operation.ensures ∙ ap (λ (x : Join). beginning x.second) c.join.view_is in
    let one = more_one t c.args.start old new j c.in_ok-push.ensures.items (cross.is_join, cross.within.same_start) in
    let across = reached_across t old new c.args.start c.args.stock.now first c.loop-is_whole.set c.with-with_second.result j c.in_ok-push.ensures.items i.reached cross
    (λ g b. elim ((c.with-with_second.ensures g).0 b) [ inl s ↦ inl s | inr h ↦ inr (h ∙ e) ]) in
    record {
      first_in = c.reached-set-in-loop-is_whole.ensures.larger first ((c.with-with_second.ensures first).1 (inl i.first_in));
      reached = subst (λ (l : List Join). AreReached l c.args.start c.args.stock.now first c.reached-set-in-loop-is_whole.result) c.as_slice-in-loop-is_whole.ensures.value
          (c.reached-set-in-loop-is_whole.ensures.reached first
          (subst (λ (l : List Join). AreReached l c.args.start c.args.stock.now first c.with-with_second.result) (sym c.as_slice-in-loop-is_whole.ensures.value) across));
      more = more_trans t c.args.start c.args.joins.now.items old new i.more one;
      are = all_more t c.args.start old new one i.are;
      whole = c.covers-is_whole-in-loop-is_whole.ensures;
    }

pub loop-is_whole-smaller : goal.loop-is_whole-smaller
loop-is_whole-smaller c =
    let found = rw c.in-Some.is at c.in_ok-found.ensures in
    let are = c.requires.stock in
    let cross = crosses_other c.args.cells.now.table.now c.args.start c.loop-is_whole.set are.0 c.args.stock.now c.in-Some.join are.2 (found are.0 are.1.last) in
    let j = c.in-Some.join in
    let x = c.first_operation.result in
    let e : x ≡ beginning j.second = c.first_operation.ensures ∙ ap (λ (x : Join). beginning x.second) c.join.view_is in
    let larger = c.reached-set-in-loop-is_whole.ensures.larger in
    let greater = greater_set c.loop-is_whole.set c.reached-set-in-loop-is_whole.result x (λ g b. larger g ((c.with-with_second.ensures g).1 (inl b))) (larger x ((c.with-with_second.ensures x).1 (inr refl)))
    (subst (λ (y : ℕ). ¬ IsBitSet c.loop-is_whole.set y) (sym e) cross.outside) in
    omega (arith, greater, c.reached-set-in-loop-is_whole.type_inv)

pub returns : goal.returns
returns c =
    let i = c.loop-is_whole.invariant in
    record {
      more = i.more;
      part = all_reached c.loop-is_whole.joins.items c.args.start c.args.stock.now (slice_index c.args.stock.now 0) c.loop-is_whole.set i.reached (i.whole.0 c.loop-is_whole-test.false);
    }
