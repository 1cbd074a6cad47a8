use Rattle.std.proofs.Common.{List, ℕ, [], ◌∷◌, codes, decimal, refl, string_bytes}
use Rattle.cn_stock_text.proofs.Behind.{as_last, behind, behind_pieces}
use Rattle.cn_stock_text.proofs.Claims.{told_known}
use Rattle.cn_stock_text.proofs.most.push_joins_text.Goals as goal

pub push_joins-requires : goal.push_joins-requires
push_joins-requires c = rw c.told.ensures (told_known c.args.table.now c.args.all c.args.joins.now c.requires)

pub returns : goal.returns
returns c =
    let first : List ℕ = string_bytes c.write.new.self in
    let second : List ℕ = string_bytes c.push_count.new.text in
    let third : List ℕ = string_bytes c.push_joins.new.text in
    let fourth : List ℕ = string_bytes c.push_more.new.text in
    let fifth : List ℕ = string_bytes c.push_str.new.self in
    let sixth : List ℕ = string_bytes c.push_one_team.new.text in
    as_last _ sixth _ _ _ c.push_theorem.ensures
    (behind fifth _ sixth _ _ c.in_ok-push_one_team.ensures
    (behind fourth _ fifth _ _ c.in_ok-push_str.ensures.bytes
    (behind third _ fourth _ _ c.in_ok-push_more.ensures
    (behind second _ third _ _ c.in_ok-push_joins.ensures
    (behind first _ second _ _ c.in_ok-push_count.ensures
    (behind_pieces (codes "Why not " ∷ decimal c.args.n ∷ codes ": " ∷ []) (string_bytes c.args.text.now) first _ _ c.in_ok-write.ensures.bytes
    (rw (c.told.ensures, c.untold.ensures, c.alike_line.ensures) refl)))))))
