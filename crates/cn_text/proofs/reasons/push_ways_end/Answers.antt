use Rattle.std.proofs.Common.{List, ℕ, codes, refl, string_bytes}
use Rattle.cn_text.specs.Reasons.{theorem_line, ways_end, ways_notes}
use Rattle.cn_text.proofs.Behind.{as_last, behind}
use Rattle.cn_text.proofs.reasons.push_ways_end.Goals as goal

pub returns : goal.returns
unfolding ways_end
returns c =
    let first : List ℕ = string_bytes c.push_ways_notes.new.text in
    as_last _ first (theorem_line (codes "at all") c.args.n) _ _ c.push_theorem.ensures
    (behind (string_bytes c.args.text.now) (ways_notes c.args.more c.args.version) first _ _ c.in_ok-push_ways_notes.ensures refl)
