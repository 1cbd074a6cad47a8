use Rattle.std.proofs.Common.{◌≡◌, ◌∙◌, ◌<◌, ◌≤◌, length, arith, false, sym, true≢false}
use Rattle.std.proofs.lemmas.List.Elements.{All-push, All-same}
use Rattle.cn_reasons.specs.Known.{IsKnownRecoverableWay}
use Rattle.cn_reasons.specs.Recoverable.{IsRecoverableWayOf}
use Rattle.cn_reasons.proofs.Told.{told_as_before, told_more}
use Rattle.cn_reasons.proofs.reasons.tell.Goals as goal
use Rattle.cn_reasons.proofs.reasons.tell.Goals.{else-not-all-via-then-not-all+else-len-ge-MOST_TOLD, else-not-all-via-else-not-all}

pub returns-then-len-ge-MOST_TOLD-clause-ways : goal.returns-then-len-ge-MOST_TOLD-clause-ways
returns-then-len-ge-MOST_TOLD-clause-ways c before so_far =
    let ways = c.args.ways.now in
    let many : 12 ≤ length ways.items = omega (arith, c.len.ensures, c.if-len-ge-MOST_TOLD.true, ways.ok.0) in
    told_as_before (IsRecoverableWayOf c.args.table.now) before ways.items c.args.all c.args.choice.now c.if-not-all.true many so_far

pub returns-clause-ways : goal.returns-clause-ways
returns-clause-ways c before so_far =
    let ways = c.args.ways.now in
    let few : c.args.all ≡ false → length ways.items < 12 =
    elim c.else-not-all.branch [
      | else-not-all-via-then-not-all+else-len-ge-MOST_TOLD w ↦ λ off. omega (arith, w.len.ensures, w.if-len-ge-MOST_TOLD.false, ways.ok.0)
      | else-not-all-via-else-not-all w ↦ λ off. absurd (true≢false (sym w.if-not-all.false ∙ off))
    ] in
    rw c.in_ok-push.ensures.items (told_more (IsRecoverableWayOf c.args.table.now) before ways.items c.args.all c.args.choice.now c.way_of.result few so_far c.way_of.ensures.way)

pub returns-clause-known : goal.returns-clause-known
returns-clause-known c =
    let t = c.args.table.now in
    All-same (IsKnownRecoverableWay t) _ _ c.in_ok-push.ensures.items (All-push (IsKnownRecoverableWay t) c.args.ways.now.items c.way_of.result c.requires.so_far c.way_of.ensures.known)
