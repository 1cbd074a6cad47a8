use Rattle.std.proofs.Common.{◌≡◌, ◌+◌, ◌++◌, ◌∙◌, ℕ, List, [], Some, suc, ap, append-nil, append_assoc, arith, drop, get_or, string_bytes, sym}
use Rattle.std.proofs.lemmas.List.{drop_all}
use Rattle.std.proofs.lemmas.Option.{slice_get-get_or}
use Rattle.std.specs.List.{slice_get}
use Rattle.cn_table.specs.TypeTable.{transition}
use Rattle.cn_log.specs.Linearized.{entry_slots}
use Rattle.cn_log.specs.Log.{entries}
use Rattle.cn_log.specs.Opening.{setting}
use Rattle.cn_log.specs.declared.entry.Entry.{Entry}
use Rattle.cn_plan_text.specs.Log.{entry_line, entry_lines}
use Rattle.cn_plan_text.proofs.Entries.{lines_at}
use Rattle.cn_plan_text.proofs.log.entry_lines.Goals as goal

pub loop-place-preserved : goal.loop-place-preserved
loop-place-preserved c =
    let object = c.args.object.now in
    let es : List Entry = entries (setting c.args.core.now) c.args.core.now.schedule in
    let slots : List ℕ = entry_slots (setting c.args.core.now) c.args.core.now.schedule in
    let k : ℕ = c.loop-place.place in
    let next : k + 1 ≡ suc k = omega arith in
    let before = string_bytes c.loop-place.lines in
    let e : Entry = get_or c.entries-entry-items.result.now k _ in
    let at : slice_get es k ≡ Some e = ap (λ l. slice_get l k) (sym c.entries-entry-items.ensures) ∙ slice_get-get_or c.entries-entry-items.result.now k _ c.loop-place-test.true in
    let given = transition object e.operation.0 c.loop-place.state.0 in
    let lines = lines_at object c.loop-place.state.0 es slots k c.slot_at-slot.result e at (sym c.slot_at-slot.ensures) in
    let rest : ℕ → List ℕ = λ state. entry_lines object state (drop (suc k) es) (drop (suc k) slots) in
    record {
      state = c.in_ok-state.ensures.range;
      lines = rw next (rw c.in_ok-state.ensures.next (
          ap (λ b. b ++ rest given.1) c.in_ok-state.ensures.line
          ∙ append_assoc before (entry_line object c.slot_at-slot.result e given) (rest given.1)
          ∙ ap (λ b. before ++ b) (sym lines)
          ∙ c.loop-place.invariant.lines
          ));
    }

pub returns : goal.returns
returns c =
    let es : List Entry = entries (setting c.args.core.now) c.args.core.now.schedule in
    let slots : List ℕ = entry_slots (setting c.args.core.now) c.args.core.now.schedule in
    let k : ℕ = c.loop-place.place in
    let none : drop k es ≡ [] = ap (drop k) (sym c.entries-entry-items.ensures) ∙ drop_all k c.entries-entry-items.result.now c.loop-place-test.false in
    sym (append-nil (string_bytes c.loop-place.lines))
    ∙ ap (λ l. string_bytes c.loop-place.lines ++ entry_lines c.args.object.now c.loop-place.state.0 l (drop k slots)) (sym none) ∙ c.loop-place.invariant.lines
