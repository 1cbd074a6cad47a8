use Rattle.std.proofs.Common.{arith}
use Rattle.cn_cert.proofs.DigitLemmas.{digit_read}
use Rattle.cn_cert.proofs.number.digit.Goals as goal

pub returns-then-bytes-le57 : goal.returns-then-bytes-le57
returns-then-bytes-le57 c = digit_read c.args.bytes.now (omega (arith, c.if-bytes-eq1.true)) (omega (arith, c.if-bytes-ge48.true)) (omega (arith, c.if-bytes-le57.true))
