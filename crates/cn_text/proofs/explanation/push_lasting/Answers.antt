use Rattle.std.proofs.Common.{List, ℕ, [], codes, refl, string_bytes}
use Rattle.cn_pieces.proofs.Ends.{as_wanted}
use Rattle.cn_text.specs.Explanation.{lasting_text}
use Rattle.cn_text.specs.Reasons.{single_line, states_line}
use Rattle.cn_text.proofs.Behind.{behind}
use Rattle.cn_text.proofs.explanation.push_lasting.Goals as goal

pub returns : goal.returns
unfolding lasting_text
returns c =
    let start : List ℕ = c.state_name-start.result.now in
    let single : List ℕ = c.operation_name-single.result.now in
    let many : List ℕ = c.operation_name-many.result.now in
    let first : List ℕ = string_bytes c.push_single_line.new.text in
    let second : List ℕ = string_bytes c.push_states_line.new.text in
    let third : List ℕ = string_bytes c.push_states_line-2.new.text in
    as_wanted _ _ _ _ c.push_pieces.ensures
    (behind second (states_line c.args.table.now many (codes " first, or no step yet") c.as_slice-2.result.now) third _ _ c.in_ok-push_states_line-2.ensures
    (behind first (states_line c.args.table.now single (codes " first") c.as_slice.result.now) second _ _ c.in_ok-push_states_line.ensures
    (behind (string_bytes c.args.text.now) (single_line start single [] many []) first _ _ c.in_ok-push_single_line.ensures
    (rw (c.state_name-start.ensures, c.operation_name-single.ensures, c.operation_name-many.ensures, c.as_slice.ensures.value, c.as_slice-2.ensures.value) refl))))
