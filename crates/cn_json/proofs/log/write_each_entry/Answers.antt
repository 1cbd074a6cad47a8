use Rattle.std.proofs.Common.{◌≡◌, ◌+◌, ◌++◌, ◌∙◌, ℕ, List, [], Some, suc, ap, append_assoc, arith, drop, get_or, sym}
use Rattle.std.proofs.lemmas.List.{drop_all}
use Rattle.std.proofs.lemmas.Option.{slice_get-get_or}
use Rattle.std.specs.List.{slice_get}
use Rattle.json.specs.Token.{Token}
use Rattle.serde_json.specs.Data.{Data}
use Rattle.cn_log.specs.Linearized.{entry_slots}
use Rattle.cn_log.specs.Log.{entries}
use Rattle.cn_log.specs.Opening.{setting}
use Rattle.cn_log.specs.declared.entry.Entry.{Entry}
use Rattle.cn_json.specs.Log.{entries_list, placed_data}
use Rattle.cn_json.specs.Tokens.{value_tokens, values_rest}
use Rattle.cn_json.proofs.EntryLists.{values_at}
use Rattle.cn_json.proofs.Pieces.{closing}
use Rattle.cn_json.proofs.log.write_each_entry.Goals as goal

pub loop-place-preserved : goal.loop-place-preserved
loop-place-preserved c =
    let object = c.args.object.now in
    let es : List Entry = entries (setting c.args.core.now) c.args.core.now.schedule in
    let slots : List ℕ = entry_slots (setting c.args.core.now) c.args.core.now.schedule in
    let k : ℕ = c.loop-place.place in
    let next : k + 1 ≡ suc k = omega arith in
    let before : List Token = c.loop-place.out in
    let e : Entry = get_or c.entries-entry-items.result.now k _ in
    let at : slice_get es k ≡ Some e = ap (λ l. slice_get l k) (sym c.entries-entry-items.ensures) ∙ slice_get-get_or c.entries-entry-items.result.now k _ c.loop-place-test.true in
    let given = c.apply-given.ensures.value in
    let values = values_at object c.loop-place.state.0 es slots k c.slot_at-slot.result e at (sym c.slot_at-slot.ensures) in
    let rest : ℕ → List Token = λ state. values_rest (entries_list object state (drop (suc k) es) (drop (suc k) slots)) in
    record {
      state = c.apply-given.ensures.next;
      left = rw next (
          ap (λ b. b ++ rest c.apply-given.result.1.0) c.in_ok-write_entry.ensures.ok
          ∙ append_assoc before (value_tokens (placed_data object c.slot_at-slot.result e (c.apply-given.result.0.0, c.apply-given.result.1.0))) (rest c.apply-given.result.1.0)
          ∙ ap (λ (x : ℕ × ℕ). before ++ (value_tokens (placed_data object c.slot_at-slot.result e x) ++ rest x.1)) given
          ∙ ap (λ (ds : List Data). before ++ values_rest ds) (sym values)
          ∙ c.loop-place.invariant.left
          );
    }

pub returns : goal.returns
returns c =
    let es : List Entry = entries (setting c.args.core.now) c.args.core.now.schedule in
    let slots : List ℕ = entry_slots (setting c.args.core.now) c.args.core.now.schedule in
    let k : ℕ = c.loop-place.place in
    let none : drop k es ≡ [] = ap (drop k) (sym c.entries-entry-items.ensures) ∙ drop_all k c.entries-entry-items.result.now c.loop-place-test.false in
    closing _ _ c.loop-place.out _ (values_rest []) _ c.end_array.ensures
    (ap (λ (l : List Entry). c.loop-place.out ++ values_rest (entries_list c.args.object.now c.loop-place.state.0 l (drop k slots))) (sym none) ∙ c.loop-place.invariant.left)
