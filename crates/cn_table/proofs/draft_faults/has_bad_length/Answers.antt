use Rattle.std.proofs.Common.{◌≡◌, ℕ, List, String, Global, map, string_bytes, length, ap, sym, ◌∙◌}
use Rattle.std.specs.List.{list_any}
use Rattle.std.proofs.lemmas.List.{length-map}
use Rattle.cn_table.specs.Faults.{is_misfit}
use Rattle.cn_table.specs.DraftView.{row_view}
use Rattle.cn_table.specs.declared.draft.DraftRow.{DraftRow}
use Rattle.cn_table.proofs.Lists.{list_any-map}
use Rattle.cn_table.proofs.draft_faults.has_bad_length.Goals as goal

misfits : (states : List (String Global)) (rows : List DraftRow)
    → list_any (λ r. is_misfit (length states) (row_view r)) rows ≡ list_any (is_misfit (length (map (λ s. string_bytes s) states))) (map row_view rows)
misfits states rows =
    ap (λ (n : ℕ). list_any (λ r. is_misfit n (row_view r)) rows) (sym (length-map states (λ s. string_bytes s)))
    ∙ sym (list_any-map (is_misfit (length (map (λ s. string_bytes s) states))) row_view rows)

pub returns : goal.returns
returns c = (rw (c.as_slice-states.ensures.value, c.deref.ensures.value) at c.some_row_misfits.ensures) ∙ misfits c.args.draft.now.states.items c.args.draft.now.operations.items
