use Rattle.std.proofs.Common.{rules, ◌≡◌, append-nil, append_assoc}
use Rattle.cn_pieces.proofs.Ends.{as_wanted}
use Rattle.cn_table.specs.Names.{name_at}
use Rattle.cn_markdown.specs.Recoverable.{witness_table}
use Rattle.cn_markdown.proofs.recoverable.push_witness_table.Goals as goal

pub returns : goal.returns
unfolding witness_table
returns c =
    let start : c.state_name-start.result.now ≡ name_at c.args.table.now.states c.args.witness.now.choice.start.0 = search rules in
    as_wanted _ _ _ _ c.push_start_place.ensures
    (rw (c.in_ok-push_pieces.ensures, c.in_ok-push_team_row-2.ensures, c.in_ok-push_team_row.ensures, c.in_ok-push_name_rule.ensures, c.in_ok-push_witness_start.ensures, c.as_slice-a_states.ensures.value, c.as_slice-b_states.ensures.value, c.as_slice.ensures.value, c.as_slice-2.ensures.value, ← start)
    (simp (append_assoc, append-nil)))
