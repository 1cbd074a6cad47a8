use Rattle.std.proofs.Common.{append-nil, append_assoc}
use Rattle.cn_pieces.proofs.Ends.{as_wanted}
use Rattle.cn_markdown.specs.Lasting.{lasting_table}
use Rattle.cn_markdown.proofs.lasting.push_lasting_table.Goals as goal

pub returns : goal.returns
unfolding lasting_table
returns c =
    as_wanted _ _ _ _ c.push_first_row-2.ensures
    (rw (c.in_ok-push_first_row.ensures, c.in_ok-push_name_rule.ensures, c.in_ok-push_lasting_start.ensures, c.as_slice-single_states.ensures.value, c.as_slice-many_states.ensures.value)
    (simp (append_assoc, append-nil)))
