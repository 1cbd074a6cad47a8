use Rattle.std.proofs.Common.{◌-◌, arith}
use Rattle.cn_stocks.proofs.Counting.{count_step, few_stocks}
use Rattle.cn_stocks.proofs.counts.+stock_count.Goals as goal

pub overflow_add-result : goal.overflow_add-result
overflow_add-result g c =
    let k = c.args.operations in
    let n = c.args.n in
    omega (
      arith,
      c.stock_count.ensures,
      c.stock_count-2.ensures,
      few_stocks k (n - 1) 25 (omega (arith, c.requires.operations, c.requires.n)),
      few_stocks (k - 1) n 25 (omega (arith, c.requires.operations, c.requires.n)),
    )

pub returns : goal.returns
returns g c = omega (arith, c.stock_count.ensures, c.stock_count-2.ensures, count_step c.args.operations c.args.n (omega (arith, c.if-operations-eq0.false)) (omega (arith, c.if-n-eq0.false)))
