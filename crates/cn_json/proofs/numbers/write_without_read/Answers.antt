use Rattle.cn_json.proofs.Pieces.{piece}
use Rattle.cn_json.proofs.numbers.write_without_read.Goals as goal

pub returns : goal.returns
returns c = rw (c.in-Some.is)
    (piece c.in_ok-key.ensures (piece c.in_ok-write_bounds.ensures c.end_object-2.ensures))
