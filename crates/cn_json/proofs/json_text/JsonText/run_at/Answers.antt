use Rattle.cn_json.proofs.Pieces.{piece}
use Rattle.cn_json.proofs.json_text.JsonText.run_at.Goals as goal

pub returns : goal.returns
returns c = piece c.in_ok-key.ensures (piece c.in_ok-begin_object.ensures (piece c.in_ok-key-2.ensures
    (piece c.in_ok-write.ensures (piece c.in_ok-array_at.ensures c.end_object.ensures))))
