use Rattle.std.proofs.Common.{List, ℕ, [], ◌∷◌, codes, decimal, refl, string_bytes}
use Rattle.cn_text.specs.Reasons.{few_states, theorem_line}
use Rattle.cn_text.proofs.Behind.{as_last, behind_pieces}
use Rattle.cn_text.proofs.reasons.push_few_states.Goals as goal

pub returns : goal.returns
unfolding few_states
returns c =
    let first : List ℕ = string_bytes c.write.new.self in
    as_last _ first (theorem_line (codes "at all") c.args.n) _ _ c.push_theorem.ensures
    (behind_pieces (codes "Why not " ∷ decimal c.args.n ∷ codes ": it has " ∷ decimal c.args.states ∷ codes " states and no two operations that last.\n" ∷ []) (string_bytes c.args.text.now) first _ _ c.in_ok-write.ensures.bytes refl)
