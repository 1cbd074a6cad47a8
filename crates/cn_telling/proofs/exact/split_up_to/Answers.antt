use Rattle.std.proofs.Common.{arith}
use Rattle.cn_telling.proofs.exact.split_up_to.Goals as goal

pub returns-then-n-lt3 : goal.returns-then-n-lt3
returns-then-n-lt3 c t most some less splits none n from to = none n (omega (arith, from, some, c.if-n-lt3.true)) to
