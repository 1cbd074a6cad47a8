use Rattle.cn_json.specs.Choices.{of_processes}
use Rattle.cn_json.proofs.Arrays.{each_closed}
use Rattle.cn_json.proofs.Pieces.{piece, same}
use Rattle.cn_json.proofs.json_text.JsonText.last_processes.Goals as goal

pub returns : goal.returns
returns g c = same (piece c.in_ok-processes.ensures c.end_array.ensures) (each_closed (of_processes g.T.OfProcesses.count (g.T.JsonValue.json c.args.table.now) c.args.things.now))
