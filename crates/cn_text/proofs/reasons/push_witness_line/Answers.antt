use Rattle.std.proofs.Common.{List, ℕ, codes, decimal, refl, string_bytes, [], ◌∷◌}
use Rattle.cn_pieces.proofs.Ends.{as_wanted}
use Rattle.cn_sentences.specs.Groups.{members}
use Rattle.cn_text.specs.Reasons.{witness_line}
use Rattle.cn_text.proofs.Behind.{behind, behind_pieces}
use Rattle.cn_text.proofs.reasons.push_witness_line.Goals as goal

pub returns : goal.returns
unfolding witness_line
returns c =
    let start : List ℕ = c.state_name-start.result.now in
    let first : List ℕ = string_bytes c.write.new.self in
    let second : List ℕ = string_bytes c.push_members.new.text in
    let third : List ℕ = string_bytes c.push_str.new.self in
    let fourth : List ℕ = string_bytes c.push_members-2.new.text in
    as_wanted _ _ _ _ c.push_pieces.ensures
    (behind third (members c.args.table.now (codes " (team B)") c.as_slice-2.result.now) fourth _ _ c.in_ok-push_members-2.ensures
    (behind second (codes ", ") third _ _ c.in_ok-push_str.ensures.bytes
    (behind first (members c.args.table.now (codes " (team A)") c.as_slice.result.now) second _ _ c.in_ok-push_members.ensures
    (behind_pieces (codes "Why " ∷ decimal c.args.processes ∷ codes ": from state " ∷ start ∷ codes ", " ∷ []) (string_bytes c.args.text.now) first _ _ c.in_ok-write.ensures.bytes
    (rw (c.state_name-start.ensures, c.as_slice.ensures.value, c.as_slice-2.ensures.value) refl)))))
