use Rattle.cn_json.proofs.Pieces.{piece}
use Rattle.cn_json.specs.Flaws.{flaws_data}
use Rattle.cn_json.proofs.flaws.write_flaws.Goals as goal

pub returns : goal.returns
unfolding flaws_data
returns c = piece c.in_ok-begin_object.ensures (piece c.in_ok-begin_array_at.ensures (piece c.in_ok-write_each_flaw.ensures c.end_object.ensures))
