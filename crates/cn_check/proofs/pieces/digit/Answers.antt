use Rattle.std.proofs.Common.{arith, refl}
use Rattle.cn_check.proofs.PieceLemmas.{digit_text}
use Rattle.cn_check.proofs.pieces.digit.Goals as goal

pub returns-clause-text : goal.returns-clause-text
returns-clause-text c = digit_text c.args.bytes.now c.in_ok-byte.rest.now c.in_ok-byte.byte _ c.in_ok-byte.ensures (omega (arith, c.if-byte-lt48.false)) refl
    (omega (arith, c.if-n-ge-MOST_PROCESSES.false))
