use Rattle.std.proofs.Common.{List, ℕ, [], ◌∷◌, codes, refl, string_bytes}
use Rattle.cn_stock_text.proofs.Behind.{as_last, behind, behind_pieces}
use Rattle.cn_stock_text.proofs.joins.push_join.Goals as goal

pub returns : goal.returns
returns c =
    let first : List ℕ = string_bytes c.push_pieces.new.text in
    let second : List ℕ = string_bytes c.push_run.new.text in
    let third : List ℕ = string_bytes c.push_str.new.self in
    let fourth : List ℕ = string_bytes c.push_run-2.new.text in
    as_last _ fourth _ _ _ c.push_joined.ensures
    (behind third _ fourth _ _ c.in_ok-_same.ensures.text
    (behind second (codes " and") third _ _ c.in_ok-push_str.ensures.bytes
    (behind first _ second _ _ c.in_ok-left.ensures.text
    (behind_pieces (codes "  from " ∷ c.state_name.result.now ∷ codes ":" ∷ []) (string_bytes c.args.text.now) first _ _ c.in_ok-push_pieces.ensures
    (rw (← c.join.view_is, c.state_name.ensures, c.in_ok-left.ensures.left, c.beginning-first.ensures.first, c.beginning-second.ensures.first) refl)))))
