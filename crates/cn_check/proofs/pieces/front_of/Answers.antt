use Rattle.cn_check.proofs.PieceLemmas.{front_taken}
use Rattle.cn_check.proofs.pieces.front_of.Goals as goal

pub returns : goal.returns
returns c = λ front e. front_taken c.args.bytes.now front c.args.rest.now e
