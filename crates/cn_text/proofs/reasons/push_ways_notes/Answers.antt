use Rattle.std.proofs.Common.{List, ℕ, refl, string_bytes}
use Rattle.cn_pieces.proofs.Ends.{as_wanted}
use Rattle.cn_text.specs.Reasons.{more_line, ways_notes}
use Rattle.cn_text.proofs.Behind.{behind}
use Rattle.cn_text.proofs.reasons.push_ways_notes.Goals as goal

pub returns : goal.returns
unfolding ways_notes
returns c =
    let first : List ℕ = string_bytes c.push_more.new.text in
    as_wanted _ _ _ _ c.push_pieces.ensures
    (behind (string_bytes c.args.text.now) (more_line c.args.more) first _ _ c.in_ok-push_more.ensures (rw c.left_out.ensures refl))
