use Rattle.std.proofs.Common.{rules, ◌≡◌, append-nil, append_assoc}
use Rattle.cn_pieces.proofs.Ends.{as_wanted}
use Rattle.cn_table.specs.Names.{name_at}
use Rattle.cn_table.specs.TypeTable.{operation_names}
use Rattle.cn_markdown.specs.Lasting.{lasting_start}
use Rattle.cn_markdown.proofs.lasting.push_lasting_start.Goals as goal

pub returns : goal.returns
unfolding lasting_start
returns c =
    let table = c.args.table.now in
    let lasting = c.args.witness.now.lasting in
    let start : c.state_name-start.result.now ≡ name_at table.states lasting.start.0 = search rules in
    let single : c.operation_name-single.result.now ≡ name_at (operation_names table) lasting.single.0 = search rules in
    let many : c.operation_name-many.result.now ≡ name_at (operation_names table) lasting.many.0 = search rules in
    as_wanted _ _ _ _ c.push_pieces.ensures (rw (c.in_ok-push_single_start.ensures, ← start, ← single, ← many) (simp (append_assoc, append-nil)))
