use Rattle.std.proofs.Common.{arith}
use Rattle.std.proofs.lemmas.Fmt.{decimal_digit}
use Rattle.cn_cert.proofs.line.Line.put_number.Goals as goal

pub returns-then-n-lt10-clause-text : goal.returns-then-n-lt10-clause-text
returns-then-n-lt10-clause-text c =
    let text = decimal_digit c.args.n (omega arith) in
    grind (arith, text, c.put.ensures.text)
