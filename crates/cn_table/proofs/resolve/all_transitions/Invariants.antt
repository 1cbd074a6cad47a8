use Rattle.std.proofs.Common.{◌≡◌, map, drop, string_bytes}
use Rattle.cn_table.specs.Draft.{all_some}
use Rattle.cn_table.specs.DraftView.{row_view}
use Rattle.cn_table.specs.TableView.{transitions_views}
use Rattle.cn_table.specs.Numbering.{row_from, rows_from}
use Rattle.cn_table.proofs.Lists.{with_front}
use Rattle.cn_table.proofs.resolve.all_transitions.Given as goal

abbrev pub invariant-loop-row : goal.invariant-loop-row
invariant-loop-row l =
    with_front (transitions_views l.out) (all_some (map (λ r. row_from (map (λ s. string_bytes s) l.states) (map (λ s. string_bytes s) l.responses) (row_view r)) (drop l.row-index l.rows)))
    ≡ rows_from (map (λ s. string_bytes s) l.states) (map (λ s. string_bytes s) l.responses) (map row_view l.rows)
