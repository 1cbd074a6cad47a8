use Rattle.cn_stocks.proofs.LastingLemmas.Closing.{not_some}
use Rattle.cn_stock_find.proofs.FindLemmas.{not_infinite}
use Rattle.cn_stock_find.proofs.find.find_without_limit.Goals as goal

pub finite_certificate-requires-clause-number : goal.finite_certificate-requires-clause-number
finite_certificate-requires-clause-number g c κs lives = rw c.in-Finite.is at c.in_ok-number.ensures

pub unreachable-requires : goal.unreachable-requires
unreachable-requires g c =
    let t = c.args.table.now in
    let fails = c.lasting_operations_decide.ensures.never t (c.find_lasting.ensures.none (not_some c.find_lasting.result c.in_default.not-Some)) in
    not_infinite t (rw c.in-Infinite.is at c.in_ok-number.ensures) fails
