use Rattle.std.proofs.Common.{Some, subst, sym}
use Rattle.cn_stock_cert.specs.Right.{ShowsAtLeast}
use Rattle.cn_stock_find.proofs.find.some_claim.Goals as goal

pub unreachable-requires : goal.unreachable-requires
unreachable-requires g c = (rw c.in-None.is at c.in_ok-found.ensures) c.requires.discerning

pub returns : goal.returns
returns g c = subst (λ claim. ShowsAtLeast c.args.table.now claim (Some c.args.n)) (sym c.split_claim.ensures) (rw c.in-Some.is at c.in_ok-found.ensures)
