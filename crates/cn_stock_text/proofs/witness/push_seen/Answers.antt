use Rattle.std.proofs.Common.{List, ℕ, refl, string_bytes}
use Rattle.cn_stock_text.proofs.Behind.{as_last_str, behind}
use Rattle.cn_stock_text.proofs.witness.push_seen.Goals as goal

pub returns : goal.returns
returns c =
    let first : List ℕ = string_bytes c.push_groups.new.text in
    let second : List ℕ = string_bytes c.push_views.new.text in
    let third : List ℕ = string_bytes c.push_views-2.new.text in
    as_last_str c.push_str.result third c.apart_line.result.now (string_bytes c.push_str.new.self) _ c.push_str.ensures.bytes
    (behind second _ third _ _ c.in_ok-push_views-2.ensures
    (behind first _ second _ _ c.in_ok-push_views.ensures
    (behind (string_bytes c.args.text.now) _ first _ _ c.in_ok-push_groups.ensures (rw c.apart_line.ensures refl))))
