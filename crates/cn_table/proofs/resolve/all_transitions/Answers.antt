use Rattle.std.proofs.Common.{map, string_bytes}
use Rattle.cn_table.specs.Numbering.{row_from}
use Rattle.cn_table.specs.DraftView.{row_view}
use Rattle.cn_table.proofs.Lists.{front_first}
use Rattle.cn_table.proofs.resolve.all_transitions.Goals as goal

pub loop-row-init : goal.loop-row-init
loop-row-init c = rw c.new-out.ensures.items (front_first (row_from (map (λ s. string_bytes s) c.args.states.now) (map (λ s. string_bytes s) c.args.responses.now)) row_view c.args.rows.now)
