use Rattle.std.proofs.Common.{◌≡◌, ◌++◌, ◌∙◌, List, ℕ, ap, string_bytes, sym, true}
use Rattle.cn_text.specs.Folded.{ends_in_line, folded}
use Rattle.cn_text.proofs.FoldedPieces.{folds_whole}
use Rattle.cn_text.proofs.folded.fold_whole.Goals as goal

pub returns-in_ok-push_folded : goal.returns-in_ok-push_folded
returns-in_ok-push_folded c rest =
    let text : List ℕ = string_bytes c.args.text.now in
    let lines : List ℕ = string_bytes c.args.lines.now in
    let new : List ℕ = string_bytes c.push_folded.new.text in
    let ends : ends_in_line lines ≡ true = ap ends_in_line (sym c.as_str.ensures.value) ∙ sym c.ends_in_line.ensures ∙ c.if-ends_in_line.true in
    let is : new ≡ text ++ folded lines = c.in_ok-push_folded.ensures ∙ ap (λ xs. text ++ folded xs) c.as_str-then-ends_in_line.ensures.value in
    ap (λ xs. new ++ folded (xs ++ rest)) c.clear.ensures.bytes ∙ folds_whole text lines new ends is rest
