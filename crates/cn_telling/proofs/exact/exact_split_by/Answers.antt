use Rattle.std.proofs.Common.{arith, subst}
use Rattle.cn_telling.specs.LastSearches.{IsLastSearch}
use Rattle.cn_telling.proofs.TellLemmas.{some_tells_splits}
use Rattle.cn_telling.proofs.exact.exact_split_by.Goals as goal

pub returns-in-None : goal.returns-in-None
returns-in-None c =
    let t = c.args.table.now in
    let most = c.args.most in
    let told = subst (IsLastSearch t most) c.in-None.is c.requires.last in
    (c.requires.some, omega arith, some_tells_splits t most told, λ m l u. absurd (omega (arith, l, u)))
