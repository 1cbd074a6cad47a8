use Rattle.std.proofs.Common.{map, string_bytes}
use Rattle.cn_table.specs.DraftView.{row_view}
use Rattle.cn_flaws.specs.Flaws.{flaws_view, row_entries}
use Rattle.cn_flaws.proofs.FlawLemmas.{each_more}
use Rattle.cn_flaws.proofs.draft_flaws.push_all_entries.Goals as goal

pub loop-i-preserved : goal.loop-i-preserved
loop-i-preserved c =
    each_more (row_entries (map (λ s. string_bytes s) c.args.states.now) (map (λ s. string_bytes s) c.args.responses.now)) row_view (flaws_view c.loop-i.flaws) _ _
    c.args.rows.now c.loop-i.i c.index-rows-i.result c.loop-i-test.true c.index-rows-i.is c.in_ok-push_row_entries.ensures c.loop-i.invariant
