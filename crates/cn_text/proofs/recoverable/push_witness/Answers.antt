use Rattle.std.proofs.Common.{List, ℕ, [], ◌∷◌, codes, refl, string_bytes}
use Rattle.cn_pieces.proofs.Ends.{as_wanted}
use Rattle.cn_text.specs.Reasons.{states_line, witness_line}
use Rattle.cn_text.specs.Recoverable.{start_place, witness_text}
use Rattle.cn_text.proofs.Behind.{behind, behind_pieces}
use Rattle.cn_text.proofs.recoverable.push_witness.Goals as goal

pub returns : goal.returns
unfolding witness_text
returns c =
    let start : List ℕ = c.state_name-start.result.now in
    let first : List ℕ = string_bytes c.push_witness_line.new.text in
    let second : List ℕ = string_bytes c.push_states_line.new.text in
    let third : List ℕ = string_bytes c.push_states_line-2.new.text in
    let fourth : List ℕ = string_bytes c.push_pieces.new.text in
    let fifth : List ℕ = string_bytes c.push_start_place.new.text in
    as_wanted _ _ _ _ c.push_pieces-2.ensures
    (behind fourth (start_place c.args.witness.now.reader) fifth _ _ c.in_ok-push_start_place.ensures
    (behind_pieces (codes "  No step yet: the state is " ∷ start ∷ []) third fourth _ _ c.in_ok-push_pieces.ensures
    (behind second (states_line c.args.table.now (codes "B") (codes " first") c.as_slice-2.result.now) third _ _ c.in_ok-push_states_line-2.ensures
    (behind first (states_line c.args.table.now (codes "A") (codes " first") c.as_slice.result.now) second _ _ c.in_ok-push_states_line.ensures
    (behind (string_bytes c.args.text.now) (witness_line c.args.table.now c.args.witness.now.processes c.args.witness.now.choice) first _ _ c.in_ok-push_witness_line.ensures
    (rw (c.state_name-start.ensures, c.as_slice.ensures.value, c.as_slice-2.ensures.value) refl))))))
