use Rattle.std.proofs.Common.{subst}
use Rattle.cn_recover.specs.Recording.{IsRecoverableNumberUpTo}
use Rattle.cn_recover.proofs.NumberBounds.{no_recoverable, recoverable_at}
use Rattle.cn_recover.proofs.number.without_limit.Goals as goal

pub returns-in-Some : goal.returns-in-Some
returns-in-Some c =
    let t = c.args.table.now in
    let f = c.requires.found in
    recoverable_at t c.args.bound f.0 c.requires.few c.requires.above f.1 f.2 c.in-Some.n (subst (IsRecoverableNumberUpTo t f.0) c.in-Some.is f.3)

pub returns-in-None : goal.returns-in-None
returns-in-None c =
    let t = c.args.table.now in
    let f = c.requires.found in
    no_recoverable t c.args.bound f.0 c.requires.few c.requires.above f.1 f.2 (subst (IsRecoverableNumberUpTo t f.0) c.in-None.is f.3)
