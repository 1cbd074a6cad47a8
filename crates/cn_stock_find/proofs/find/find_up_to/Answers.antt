use Rattle.std.proofs.Common.{arith}
use Rattle.cn_stock_find.proofs.FindLemmas.{found_up_to, limit_in, lower_up_to}
use Rattle.cn_stock_find.proofs.find.find_up_to.Goals as goal

pub certificate_of-requires-clause-few : goal.certificate_of-requires-clause-few
certificate_of-requires-clause-few g c κs lives = omega (arith, (limit_in c.args.limit c.in_ok-found.ensures.searched).1)

pub certificate_of-requires-clause-small : goal.certificate_of-requires-clause-small
certificate_of-requires-clause-small g c κs lives =
    lower_up_to c.args.table.now c.args.limit _ (limit_in c.args.limit c.in_ok-found.ensures.searched).1 c.in_ok-found.ensures.number

pub certificate_of-requires-clause-some : goal.certificate_of-requires-clause-some
certificate_of-requires-clause-some g c κs lives = (limit_in c.args.limit c.in_ok-found.ensures.searched).0

pub returns-clause-certificate : goal.returns-clause-certificate
returns-clause-certificate g c =
    let few = (limit_in c.args.limit c.in_ok-found.ensures.searched).1 in
    found_up_to c.args.table.now c.args.limit _ few c.in_ok-found.ensures.number _ c.in_ok-certificate.ensures
