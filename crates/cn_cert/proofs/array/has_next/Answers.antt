use Rattle.std.proofs.Common.{◌≡◌, true, ap, ◌∙◌, arith}
use Rattle.cn_cert.specs.Tokens.{rest_at}
use Rattle.cn_cert.proofs.ArrayWalks.{items_over_at}
use Rattle.cn_cert.proofs.array.has_next.Goals as goal

pub returns-then-take_end_array-clause-more : goal.returns-then-take_end_array-clause-more
returns-then-take_end_array-clause-more c =
    let was_open : c.args.more.now ≡ true = grind arith in
    λ depth. ap (λ o. rest_at o depth c.args.reader.now) was_open ∙ items_over_at depth c.args.reader.now c.take_end_array.new.self (grind arith)
