use Rattle.cn_json.specs.Choices.{group_processes}
use Rattle.cn_json.proofs.Arrays.{rest_joined}
use Rattle.cn_json.proofs.Pieces.{piece}
use Rattle.cn_json.proofs.json_text.JsonText.processes_of.Goals as goal

pub returns : goal.returns
returns c = let t = c.args.table.now in
    rw (rest_joined (group_processes t c.args.choice.now.a.items) (group_processes t c.args.choice.now.b.items), ← c.deref.ensures.0, ← c.deref-2.ensures.0)
    (piece c.in_ok-begin_array_at.ensures (piece c.in_ok-processes.ensures c.last_processes.ensures))
