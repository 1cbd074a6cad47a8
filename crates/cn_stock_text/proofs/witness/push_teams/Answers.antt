use Rattle.std.proofs.Common.{List, ℕ, codes, refl, string_bytes}
use Rattle.cn_stock_text.proofs.Behind.{as_last_str, behind}
use Rattle.cn_stock_text.proofs.witness.push_teams.Goals as goal

pub returns : goal.returns
returns c =
    let first : List ℕ = string_bytes c.push_str.new.self in
    let second : List ℕ = string_bytes c.push_operations.new.text in
    let third : List ℕ = string_bytes c.push_str-2.new.self in
    let fourth : List ℕ = string_bytes c.push_operations-2.new.text in
    let fifth : List ℕ = string_bytes c.push_str-3.new.self in
    as_last_str c.push_str-4.result fifth c.apart_line.result.now (string_bytes c.push_str-4.new.self) _ c.push_str-4.ensures.bytes
    (behind fourth (codes ".\n") fifth _ _ c.in_ok-push_str-3.ensures.bytes
    (behind third _ fourth _ _ c.in_ok-push_operations-2.ensures
    (behind second (codes ", team B does") third _ _ c.in_ok-push_str-2.ensures.bytes
    (behind first _ second _ _ c.in_ok-push_operations.ensures
    (behind (string_bytes c.args.text.now) (codes "team A does") first _ _ c.in_ok-push_str.ensures.bytes
    (rw (c.team_a.ensures, c.team_b.ensures, c.apart_line.ensures) refl))))))
