use Rattle.std.proofs.Common.{rules, ◌≡◌, append-nil, append_assoc}
use Rattle.cn_pieces.proofs.Ends.{as_wanted}
use Rattle.cn_table.specs.Names.{name_at}
use Rattle.cn_markdown.specs.Unread.{witness_start}
use Rattle.cn_markdown.proofs.unread.push_witness_start.Goals as goal

pub returns : goal.returns
unfolding witness_start
returns c =
    let start : c.state_name-start.result.now ≡ name_at c.args.table.now.states c.args.witness.now.choice.start.0 = search rules in
    as_wanted _ _ _ _ c.push_next_steps.ensures (rw (c.in_ok-write.ensures.bytes, ← start) (simp (append_assoc, append-nil)))
