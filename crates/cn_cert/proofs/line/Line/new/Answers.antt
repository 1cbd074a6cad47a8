use Rattle.std.proofs.Common.{ℕ, zero, suc, arith, IsAscii}
use Rattle.std.proofs.Math.ListN.{replicate}
use Rattle.std.proofs.lemmas.Str.Ascii.{IsAscii-nil, IsAscii-cons}
use Rattle.cn_cert.proofs.line.Line.new.Goals as goal

zeros : (n : ℕ) → IsAscii (replicate n 0)
zeros zero = IsAscii-nil
zeros (suc n) = IsAscii-cons 0 (replicate n 0) (omega arith) (zeros n)

pub invariant_of-result : goal.invariant_of-result
invariant_of-result c = record { ascii = zeros 160 }
