use Rattle.std.proofs.Common.{List, ℕ, codes, refl, string_bytes}
use Rattle.cn_stock_text.proofs.Behind.{as_last_str, behind}
use Rattle.cn_stock_text.proofs.lasting.push_lasting.Goals as goal

pub returns : goal.returns
returns c =
    let first : List ℕ = string_bytes c.push_lasting_line.new.text in
    let second : List ℕ = string_bytes c.push_states_line.new.text in
    let third : List ℕ = string_bytes c.push_states_line-2.new.text in
    let fourth : List ℕ = string_bytes c.push_states_line-3.new.text in
    as_last_str c.push_str.result fourth (codes "  No state of the first list is in another one, so each process can tell which came first, however many there are.\n") (string_bytes c.push_str.new.self) _
    c.push_str.ensures.bytes
    (behind third _ fourth _ _ c.in_ok-push_states_line-3.ensures
    (behind second _ third _ _ c.in_ok-push_states_line-2.ensures
    (behind first _ second _ _ c.in_ok-push_states_line.ensures
    (behind (string_bytes c.args.text.now) _ first _ _ c.in_ok-push_lasting_line.ensures
    (rw (← c.sets.view_is, c.as_slice.ensures.value, c.as_slice-2.ensures.value, c.as_slice-3.ensures.value, c.operation_name-single.ensures, c.operation_name-many.ensures) refl)))))
