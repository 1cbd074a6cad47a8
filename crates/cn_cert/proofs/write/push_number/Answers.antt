use Rattle.std.proofs.Common.{arith}
use Rattle.std.proofs.lemmas.Fmt.{decimal_digit}
use Rattle.cn_cert.proofs.write.push_number.Goals as goal

pub returns-then-n-lt10 : goal.returns-then-n-lt10
returns-then-n-lt10 g c =
    let text = decimal_digit c.args.n (omega arith) in
    grind (arith, text, c.push.ensures)
