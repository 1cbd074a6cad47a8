use Rattle.std.proofs.Common.{List, ℕ, [], ◌∷◌, codes, decimal, refl, string_bytes}
use Rattle.cn_text.specs.Reasons.{ways_end, ways_words}
use Rattle.cn_text.specs.Recoverable.{refutation_text}
use Rattle.cn_text.specs.Ways.{numbered, recoverable_way_text}
use Rattle.cn_text.proofs.Behind.{as_last, behind, behind_pieces}
use Rattle.cn_text.proofs.recoverable.push_refutation.Goals as goal

pub returns : goal.returns
unfolding refutation_text
returns c =
    let first : List ℕ = string_bytes c.write.new.self in
    let second : List ℕ = string_bytes c.push_ways_words.new.text in
    let third : List ℕ = string_bytes c.push_recoverable_ways.new.text in
    as_last _ third (ways_end c.args.refutation.now.more 2 c.args.refutation.now.processes) _ _ c.push_ways_end.ensures
    (behind second (numbered (recoverable_way_text c.args.table.now) 0 c.as_slice.result.now) third _ _ c.in_ok-push_recoverable_ways.ensures
    (behind first (ways_words (codes "the state does not tell") c.args.refutation.now.count) second _ _ c.in_ok-push_ways_words.ensures
    (behind_pieces (codes "Why not " ∷ decimal c.args.refutation.now.processes ∷ codes ": " ∷ []) (string_bytes c.args.text.now) first _ _ c.in_ok-write.ensures.bytes (rw c.as_slice.ensures.value refl))))
