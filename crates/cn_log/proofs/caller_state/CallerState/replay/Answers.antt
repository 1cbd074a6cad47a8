use Rattle.std.proofs.Common.{◌≡◌, ◌≢◌, inl, inr, ◌+◌, ◌<◌, [], ◌∷◌, length, slice_index_or, slice_set, sym, ap, ◌∙◌, subst, arith, length-append, length-set, get_or-set_same, get_or-set_other, Some}
use Rattle.std.proofs.lemmas.Bool.{cases_eq}
use Rattle.cn_table.specs.TypeTable.{transition}
use Rattle.cn_table.specs.Run.{state_after}
use Rattle.cn_log.specs.Batches.{and_entry, entry_at, members}
use Rattle.cn_log.specs.declared.call_counts.CallCounts.{CallCounts}
use Rattle.cn_log.specs.declared.caller_state.CallerState.{CallerState}
use Rattle.cn_log.specs.Fields.{count_at}
use Rattle.cn_log.specs.Log.{operations_of}
use Rattle.cn_log.proofs.ListLemmas.EntryPositions.{members_few}
use Rattle.cn_log.proofs.ListLemmas.NextMembers.{next_some, next_none, run_push}
use Rattle.cn_log.proofs.caller_state.CallerState.replay.Goals.{in-Some, in_default}
use Rattle.cn_log.proofs.caller_state.CallerState.replay.Goals as goal

pub overflow_add-self : goal.overflow_add-self
overflow_add-self c = omega (arith, members_few c.loop-p.p 0 c.args.batch.now, c.loop-p.invariant.entries, c.loop-p-test.true, c.requires.processes, c.requires.replayed_entries)

pub loop-p-preserved : goal.loop-p-preserved
loop-p-preserved c =
    let i = c.loop-p.invariant in
    let q0 = c.loop-p.p in
    let was = c.loop-p.self.calls_seen.calls in
    let t = c.args.object.now in
    let done = members q0 0 c.args.batch.now in
    elim c.match-of.branch [
      | in-Some w ↦ (
          let e = w.in-Some.call in
          let there : entry_at c.args.batch.now q0 ≡ Some e = sym c.of.ensures ∙ w.in-Some.is in
          let n = next_some q0 c.args.batch.now e there in
          let many = ap length n ∙ length-append done (e ∷ []) in
          let counts = ap (λ (k : CallerState). k.calls_seen.calls) w.self-is ∙ ap (λ (k : CallCounts). k.calls) w.add_one.ensures in
          let entries = ap (λ (k : CallerState). k.replayed_entries) w.self-is in
          let state = ap (λ (k : CallerState). k.state) w.self-is in
          let one = ap (λ o. length (and_entry o [])) there in
          let low = i.places in
          let end = c.loop-p-test.true in
          let few = c.requires.processes in
          let now = i.left q0 (omega arith) in
          let same = get_or-set_same was q0 (slice_index_or was q0 0 + 1) 0 (omega (arith, low, end, few)) in
          record {
            slots = ap (λ (k : CallerState). k.replayed_slots) w.self-is ∙ i.slots;
            entries = omega (arith, entries, i.entries, many);
            places = ap length counts ∙ length-set was q0 _ ∙ i.places;
            counted = λ q less. ap (λ l. slice_index_or l q 0) counts ∙ elim (cases_eq q q0) [
              | inl f ↦ subst (λ k. slice_index_or (slice_set was q0 (slice_index_or was q0 0 + 1)) k 0 ≡ count_at c.args.self.now.calls_seen k
                  + length (and_entry (entry_at c.args.batch.now k) [])) (sym f)
                  (same ∙ (omega (arith, now, one)))
              | inr ne ↦ get_or-set_other was q0 q _ 0 ne ∙ i.counted q (grind arith)
            ];
            left = λ q high. (
                let ne : q ≢ q0 = (λ f. absurd (omega (arith, high, f))) in
                ap (λ l. slice_index_or l q 0) counts ∙ get_or-set_other was q0 q _ 0 ne ∙ i.left q (omega (arith, high))
                );
            made = ap (λ (k : CallerState). k.calls) w.self-is ∙ i.made;
            doing = ap (λ (k : CallerState). k.phase) w.self-is ∙ i.doing;
            reached = ap (λ s. s.0) state ∙ ap (λ x. x.1) w.apply.ensures.value ∙ ap (λ s. (transition t e.operation.0 s).1) i.reached ∙ sym (run_push t c.args.self.now.state.0 done e)
                ∙ ap (λ l. state_after t c.args.self.now.state.0 (operations_of l)) (sym n);
            known = subst (λ s. s.0 < length t.states) (sym state) w.apply.ensures.next;
          }
          )
      | in_default w ↦ (
          let there = sym c.of.ensures ∙ w.in_default.is in
          let n = next_none q0 c.args.batch.now there in
          let counts = ap (λ (k : CallerState). k.calls_seen.calls) w.self-is in
          let entries = ap (λ (k : CallerState). k.replayed_entries) w.self-is in
          let state = ap (λ (k : CallerState). k.state) w.self-is in
          let none = ap (λ o. length (and_entry o [])) there in
          let now = i.left q0 (omega arith) in
          record {
            slots = ap (λ (k : CallerState). k.replayed_slots) w.self-is ∙ i.slots;
            entries = omega (arith, entries, i.entries, ap length n);
            places = ap length counts ∙ i.places;
            counted = λ q less. ap (λ l. slice_index_or l q 0) counts ∙ elim (cases_eq q q0) [
              | inl f ↦ subst (λ k. slice_index_or was k 0 ≡ count_at c.args.self.now.calls_seen k + length (and_entry (entry_at c.args.batch.now k) [])) (sym f) (omega (arith, now, none))
              | inr ne ↦ i.counted q (grind arith)
            ];
            left = λ q high. ap (λ l. slice_index_or l q 0) counts ∙ i.left q (omega (arith, high));
            made = ap (λ (k : CallerState). k.calls) w.self-is ∙ i.made;
            doing = ap (λ (k : CallerState). k.phase) w.self-is ∙ i.doing;
            reached = ap (λ s. s.0) state ∙ i.reached ∙ ap (λ l. state_after t c.args.self.now.state.0 (operations_of l)) (sym n);
            known = subst (λ s. s.0 < length t.states) (sym state) i.known;
          }
          )
    ]
