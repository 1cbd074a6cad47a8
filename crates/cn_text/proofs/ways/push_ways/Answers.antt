use Rattle.std.proofs.Common.{◌≡◌, ◌+◌, ◌++◌, ◌∙◌, List, ℕ, ap, append_assoc, drop, refl, string_bytes, sym}
use Rattle.cn_reasons.specs.declared.way.Way.{Way}
use Rattle.cn_text.specs.Folded.{folded}
use Rattle.cn_text.specs.Ways.{numbered, way_text}
use Rattle.cn_text.proofs.Numbered.{numbered_more}
use Rattle.cn_text.proofs.ways.push_ways.Goals as goal

pub loop-place-preserved : goal.loop-place-preserved
loop-place-preserved c rest =
    let told : ℕ → Way → List ℕ = way_text c.args.table.now in
    let place : ℕ = c.loop-place.place in
    let text : List ℕ = string_bytes c.loop-place.text in
    let lines : List ℕ = string_bytes c.loop-place.lines in
    let more : List ℕ = string_bytes c.push_way.new.text in
    let here : List ℕ = numbered told place (drop place c.args.ways.now) in
    let others : List ℕ = numbered told (place + 1) (drop (place + 1) c.args.ways.now) in
    let joined : more ++ others ≡ lines ++ here =
    numbered_more told place c.args.ways.now c.index-ways-place.result lines more (lines ++ here) c.loop-place-test.true c.index-ways-place.is refl c.in_ok-push_way.ensures
    in
    c.in_ok-fold_whole.ensures (others ++ rest)
    ∙ ap (λ xs. text ++ folded xs) (sym (append_assoc more others rest) ∙ ap (λ xs. xs ++ rest) joined ∙ append_assoc lines here rest)
    ∙ c.loop-place.invariant rest
