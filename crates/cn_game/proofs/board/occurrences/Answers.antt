use Rattle.std.proofs.Common.{◌≡◌, Bool, cond, ap, arith, ◌∙◌, sym}
use Rattle.cn_game.specs.Boards.{same, status_of, statuses}
use Rattle.cn_game.proofs.Starts.{read_status}
use Rattle.cn_game.proofs.Counts.{one, times-more}
use Rattle.cn_game.proofs.board.occurrences.Goals as goal
use Rattle.cn_game.proofs.board.occurrences.Goals.{then-is, else-is}

pub loop-standing-preserved : goal.loop-standing-preserved
loop-standing-preserved c =
    let i = c.loop-standing.standing-index in
    let more = times-more (status_of c.args.one) (statuses c.args.standings.now) i in
    elim c.if-is.branch [
      | then-is w ↦
          (let e : one (status_of c.args.one) (statuses c.args.standings.now i) ≡ 1 = ap (λ (b : Bool). cond b 1 0) (ap (same (status_of c.args.one)) (sym (read_status c.args.standings.now i _ c.loop-standing-test.true)) ∙ (sym c.is.ensures ∙ w.if-is.true)) in (omega (arith, more, e, c.loop-standing.invariant.0, w.count-is), omega (arith, c.loop-standing.invariant.1, w.count-is)))
      | else-is w ↦
          (let e : one (status_of c.args.one) (statuses c.args.standings.now i) ≡ 0 = ap (λ (b : Bool). cond b 1 0) (ap (same (status_of c.args.one)) (sym (read_status c.args.standings.now i _ c.loop-standing-test.true)) ∙ (sym c.is.ensures ∙ w.if-is.false)) in (omega (arith, more, e, c.loop-standing.invariant.0, w.count-is), omega (arith, c.loop-standing.invariant.1, w.count-is)))
    ]
