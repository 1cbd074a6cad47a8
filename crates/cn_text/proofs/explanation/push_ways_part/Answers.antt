use Rattle.std.proofs.Common.{◌≡◌, ◌++◌, ◌∙◌, List, ℕ, [], ap, codes, string_bytes, subst}
use Rattle.std.proofs.lemmas.Result.{on_ok_weaker}
use Rattle.cn_reasons.specs.declared.way.Way.{Way}
use Rattle.cn_text.specs.Explanation.{in_full, ways_part}
use Rattle.cn_text.specs.Folded.{FoldsBehind}
use Rattle.cn_text.specs.Reasons.{ways_end, ways_words}
use Rattle.cn_text.specs.Ways.{numbered, way_text}
use Rattle.cn_text.proofs.FoldedPieces.{lines_alone, lines_more, piece_then}
use Rattle.cn_text.proofs.explanation.push_ways_part.Goals as goal

pub returns : goal.returns
unfolding ways_part
returns c =
    let e = c.args.explanation.now in
    let r = c.args.refutation.now in
    let text : List ℕ = string_bytes c.args.text.now in
    let lines : List ℕ = string_bytes c.args.lines.now in
    let first : List ℕ = string_bytes c.push_str.new.self in
    let second : List ℕ = string_bytes c.push_ways_words.new.text in
    let told : List ℕ = string_bytes c.push_ways.new.text in
    let third : List ℕ = string_bytes c.push_ways.new.lines in
    let fourth : List ℕ = string_bytes c.push_ways_end.new.text in
    let full : List ℕ = in_full e.rule in
    let words : List ℕ = ways_words (codes "a process cannot tell") r.count in
    let ways : List ℕ = numbered (way_text e.table) 0 r.ways.items in
    let notes : List ℕ = ways_end r.more e.version r.processes in
    let by_full : first ≡ lines ++ full = c.in_ok-push_str.ensures.bytes ∙ ap (λ xs. lines ++ xs) c.in_full.ensures in
    let by_ways : FoldsBehind text second ways told third =
    subst (λ (xs : List Way). FoldsBehind text second (numbered (way_text e.table) 0 xs) told third) c.as_slice.ensures.value c.in_ok-push_ways.ensures
    in
    on_ok_weaker c.push_ways_end.result (λ by_notes.
    piece_then text lines full text first (words ++ (ways ++ (notes ++ []))) told fourth (lines_more text lines full first by_full)
    (piece_then text first words text second (ways ++ (notes ++ [])) told fourth (lines_more text first words second c.in_ok-push_ways_words.ensures)
    (piece_then text second ways told third (notes ++ []) told fourth by_ways
    (piece_then told third notes told fourth [] told fourth (lines_more told third notes fourth by_notes) (lines_alone told fourth)))))
    c.push_ways_end.ensures
