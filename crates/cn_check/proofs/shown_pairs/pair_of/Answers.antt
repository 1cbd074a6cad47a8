use Rattle.std.proofs.Common.{◌≡◌, ◌==◌, ◌<◌, ℕ, None, Some, IfSome, ap, arith, cond, get_or, length, rules, subst, sym, true≢false}
use Rattle.std.proofs.lemmas.Option.{none-some}
use Rattle.cn_choice.specs.Canonical.{raw_choice_of}
use Rattle.cn_choice.specs.Orders.{IsOrder}
use Rattle.cn_check.proofs.RunLemmas.{moves_at, order_is_moves}
use Rattle.cn_check.proofs.OrderLemmas.{kept_new, kept_old, kept_other, walk_next, walk_shows}
use Rattle.cn_check.proofs.WalkLemmas.{first_some}
use Rattle.cn_check.proofs.shown_pairs.pair_of.Goals as goal
use Rattle.cn_check.proofs.shown_pairs.pair_of.Goals.{then-p-process+then-is_none, else-p-process, else-p-process-via-then-p-process+else-is_none, else-p-process-via-else-p-process}

pub returns-then-not-may_move-clause-pair : goal.returns-then-not-may_move-clause-pair
returns-then-not-may_move-clause-pair c pair =
    let at = moves_at c.processes_in-n.result c.loop-p.used c.args.list.now c.loop-p.p-index c.loop-p-test.true in (
      λ e. absurd (none-some pair e),
      λ is.
          let left = at.0 (c.loop-p.invariant.moves.1 ((order_is_moves c.processes_in-n.result c.args.list.now).0 (subst (λ (k : ℕ). IsOrder k c.args.list.now) (sym c.processes_in-n.ensures) is.0)).1) in
          absurd (true≢false (rw c.if-not-may_move.true at (sym (c.may_move.ensures.1 (left.0, left.1))))),
    )

pub returns-in-Some-clause-pair : goal.returns-in-Some-clause-pair
returns-in-Some-clause-pair c = rw c.in-Some.is at
    (walk_shows c.pair_along_order.ensures c.args.table.now (raw_choice_of (record { state = c.args.start.0; a = c.args.teams.0.now; b = c.args.teams.1.now })) _ c.processes_in-n.result c.loop-p.used c.args.list.now c.args.process
    c.loop-p.p-index c.loop-p.state.0 c.loop-p.own_response c.processes_in-n.ensures (omega arith) c.loop-p.invariant.walked c.loop-p.invariant.moves)

pub returns-in-None-clause-pair : goal.returns-in-None-clause-pair
returns-in-None-clause-pair c = rw c.in-None.is at
    (walk_shows c.pair_along_order.ensures c.args.table.now (raw_choice_of (record { state = c.args.start.0; a = c.args.teams.0.now; b = c.args.teams.1.now })) _ c.processes_in-n.result c.loop-p.used c.args.list.now c.args.process
    c.loop-p.p-index c.loop-p.state.0 c.loop-p.own_response c.processes_in-n.ensures (omega arith) c.loop-p.invariant.walked c.loop-p.invariant.moves)

-- the response that is kept
own : (c : goal.Joined-p-process) → c.if-p-process.own_response ≡ first_some c.loop-p.own_response (cond (get_or c.args.list.now c.loop-p.p-index 0 == c.args.process) (Some c.apply.result.0.0) None)
own c = elim c.if-p-process.branch [
  | then-p-process+then-is_none w ↦ kept_new c.loop-p.own_response c.if-p-process.own_response _ c.args.process c.apply.result.0.0 w.if-p-process.true (search rules) w.own_response-is
  | else-p-process w ↦
      elim w.else-p-process.branch [
        | else-p-process-via-then-p-process+else-is_none x ↦ kept_old c.loop-p.own_response c.if-p-process.own_response _ c.apply.result.0.0 (search rules) w.own_response-is
        | else-p-process-via-else-p-process x ↦ kept_other c.loop-p.own_response c.if-p-process.own_response _ c.args.process c.apply.result.0.0 x.if-p-process.false w.own_response-is
      ]
]

state_is : (c : goal.Joined-p-process) → c.if-p-process.state.0 ≡ c.apply.result.1.0
state_is c = elim c.if-p-process.branch [
  | then-p-process+then-is_none w ↦ ap (λ q. q.0) w.state-is
  | else-p-process w ↦ ap (λ q. q.0) w.state-is
]

in_range : (c : goal.Joined-p-process) → IfSome c.if-p-process.own_response (λ response. response < length c.args.table.now.responses)
in_range c = elim c.if-p-process.branch [
  | then-p-process+then-is_none w ↦ rw w.own_response-is c.apply.ensures.response
  | else-p-process w ↦ rw w.own_response-is c.loop-p.invariant.in_range
]

pub loop-p-preserved : goal.loop-p-preserved
loop-p-preserved c =
    let at = moves_at c.processes_in-n.result c.loop-p.used c.args.list.now c.loop-p.p-index c.loop-p-test.true in
    let may = c.may_move.ensures.0 c.if-not-may_move.false in
    let moved = rw c.operation_in.ensures at c.apply.ensures.value in
    record {
      moves = rw c.with_moved-used.ensures.with (λ h. c.loop-p.invariant.moves.0 (at.1 (may.0, may.1, h)), λ h. (at.0 (c.loop-p.invariant.moves.1 h)).2);
      walked =
          rw (state_is c)
          (walk_next c.args.table.now (raw_choice_of (record { state = c.args.start.0; a = c.args.teams.0.now; b = c.args.teams.1.now })) c.args.list.now c.args.process c.loop-p.p-index c.loop-p.state.0
          c.loop-p.own_response c.if-p-process.own_response c.apply.result.0.0 c.apply.result.1.0 c.loop-p-test.true c.loop-p.invariant.walked moved c.apply.ensures.next (own c));
      in_range = in_range c;
    }
