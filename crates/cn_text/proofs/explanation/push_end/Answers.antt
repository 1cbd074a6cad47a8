use Rattle.std.proofs.Common.{◌≡◌, ◌++◌, ◌∙◌, List, ℕ, ap, string_bytes}
use Rattle.cn_pieces.proofs.Ends.{as_wanted}
use Rattle.cn_text.specs.Explanation.{no_more, pairs_line}
use Rattle.cn_text.specs.Folded.{folded}
use Rattle.cn_text.proofs.explanation.push_end.Goals as goal

pub returns : goal.returns
returns c =
    let e = c.args.explanation.now in
    let text : List ℕ = string_bytes c.args.text.now in
    let told : List ℕ = string_bytes c.push_no_more.new.text in
    let lines : List ℕ = string_bytes c.push_no_more.new.lines in
    let pairs : List ℕ = pairs_line e.table e.witness e.apart.items in
    let by_pairs : string_bytes c.push_pairs_line.new.text ≡ lines ++ pairs =
    c.in_ok-push_pairs_line.ensures ∙ ap (λ xs. lines ++ pairs_line e.table e.witness xs) c.as_slice.ensures.value
    in
    as_wanted _ _ _ _ c.push_folded.ensures
    (ap (λ xs. told ++ folded xs) (c.as_str.ensures.value ∙ by_pairs) ∙ c.in_ok-push_no_more.ensures pairs
    ∙ ap (λ xs. text ++ folded (xs ++ (no_more e e.refutation ++ pairs))) c.new-lines.ensures.bytes)
