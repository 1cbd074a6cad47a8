use Rattle.cn_check.proofs.PieceLemmas.{piece_is}
use Rattle.cn_check.proofs.pieces.behind_piece.Goals as goal

pub returns : goal.returns
returns c = piece_is c.args.bytes.now c.args.piece.now c.strip_prefix.result c.strip_prefix.ensures.cases
