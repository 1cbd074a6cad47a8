use Rattle.std.proofs.Common.{◌<◌, arith, length}
use Rattle.std.proofs.lemmas.List.Elements.{All-get_or}
use Rattle.cn_stock_text.proofs.Words.{all_below}
use Rattle.cn_stock_text.proofs.joins.beginning.Goals as goal

pub returns-clause-known : goal.returns-clause-known
returns-clause-known c =
    let word = c.args.placed.now.word in
    let operations = length c.args.table.now.operations in
    rw c.operations_of.ensures (All-get_or (λ o. o < operations) word 0 0 (omega (arith, c.requires.has_place)) (all_below operations word c.requires.known))
