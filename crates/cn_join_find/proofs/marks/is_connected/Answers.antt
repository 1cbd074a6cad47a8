use Rattle.std.proofs.Common.{ℕ, ◌≡◌, ◌≢◌, ◌≤◌, List, ap, arith, length, subst}
use Rattle.cn_stocks.proofs.Times.{one_at, times_cons}
use Rattle.cn_stocks.specs.Words.{times}
use Rattle.cn_join_find.proofs.MarkLemmas.{connect_two, connect_whole, shared}
use Rattle.cn_join_find.proofs.marks.is_connected.Goals as goal

pub returns-then-count-ge2 : goal.returns-then-count-ge2
returns-then-count-ge2 c t start joins above sure =
    let stock = c.args.stock.now.operations.items in
    let x = c.in-Some.first in
    let rest = c.in-Some.ensures.connected t start joins above in
    let often : c.count.result ≡ times x stock = subst (λ (l : List ℕ). c.count.result ≡ times x l) c.as_slice-operations.ensures.value c.count.ensures in
    connect_whole joins start stock x rest.0 rest.1 (omega (arith, often, c.if-count-ge2.true, rest.1 x, times_cons x x rest.0, one_at x)) rest.2

pub returns : goal.returns
returns c t start joins above sure =
    let stock = c.args.stock.now.operations.items in
    let x = c.in-Some.first in
    let y = c.in-Some-connected_without._second in
    let us = c.in-Some.ensures.connected t start joins above in
    let vs = c.in-Some-connected_without.ensures.connected t start joins above in
    let other : x ≢ y = λ e. absurd (omega (arith, e, c.in-Some-connected_without.ensures.range.0)) in
    let three : 3 ≤ length stock = omega (arith, c.if-operations-lt3.false, ap length c.as_slice-operations.ensures.value) in
    connect_two joins start stock x y us.0 vs.0 other us.1 vs.1 (shared x y stock us.0 vs.0 other us.1 vs.1 three) us.2 vs.2
