use Rattle.cn_json.proofs.Pieces.{piece}
use Rattle.cn_json.proofs.changes.write_responses.Goals as goal

pub returns-in_ok-begin_array_at-in-Some : goal.returns-in_ok-begin_array_at-in-Some
returns-in_ok-begin_array_at-in-Some c = rw c.in-Some.is (piece c.in_ok-begin_array_at-in-Some.ensures c.end_array.ensures)
