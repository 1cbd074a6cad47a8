use Rattle.cn_json.proofs.Pieces.{piece}
use Rattle.cn_json.proofs.numbers.write_recoverable.Goals as goal

pub returns : goal.returns
returns c = rw (c.in-Some.is)
    (piece c.in_ok-key.ensures (piece c.in_ok-write_type_number.ensures c.write_without_read-2.ensures))
