use Rattle.std.proofs.Common.{List, ℕ, [], ◌∷◌, codes, false, refl, string_bytes}
use Rattle.cn_text.specs.Ways.{both_runs, recoverable_way_text, way_start}
use Rattle.cn_text.proofs.Behind.{as_last, behind, behind_pieces}
use Rattle.cn_text.proofs.ways.push_recoverable_way.Goals as goal

pub returns : goal.returns
unfolding recoverable_way_text
returns c =
    let way = c.args.way.now in
    let state : List ℕ = c.state_name.result.now in
    let first : List ℕ = string_bytes c.push_way_start.new.text in
    let second : List ℕ = string_bytes c.push_pieces.new.text in
    as_last _ second (both_runs c.args.table.now false way.choice.start c.as_slice-a_first.result.now c.as_slice-b_first.result.now) _ _ c.push_both_runs.ensures
    (behind_pieces (codes "        both leave " ∷ state ∷ codes ":\n" ∷ []) first second _ _ c.in_ok-push_pieces.ensures
    (behind (string_bytes c.args.text.now) (way_start c.args.table.now c.args.number way.choice) first _ _ c.in_ok-push_way_start.ensures
    (rw (c.state_name.ensures, c.as_slice-a_first.ensures.value, c.as_slice-b_first.ensures.value) refl)))
