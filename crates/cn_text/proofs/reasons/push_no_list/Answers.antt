use Rattle.std.proofs.Common.{List, ℕ, [], ◌∷◌, codes, decimal, refl, string_bytes}
use Rattle.cn_text.specs.Reasons.{no_list, theorem_line}
use Rattle.cn_text.proofs.Behind.{as_last, behind_pieces}
use Rattle.cn_text.proofs.reasons.push_no_list.Goals as goal

pub returns : goal.returns
unfolding no_list
returns c =
    let first : List ℕ = string_bytes c.write.new.self in
    as_last _ first (theorem_line (codes "at all") c.args.n) _ _ c.push_theorem.ensures
    (behind_pieces (codes "Why not " ∷ decimal c.args.n ∷ codes ": its ways are not listed here.\n" ∷ []) (string_bytes c.args.text.now) first _ _ c.in_ok-write.ensures.bytes refl)
