use Rattle.std.proofs.Common.{◌+◌, ◌++◌, length, [], ◌∷◌, sym, ap, ◌∙◌, arith, append_assoc, length-append, vec_capacity}
use Rattle.cn_log.specs.Batches.{each_slot, members}
use Rattle.cn_log.proofs.ListLemmas.NextMembers.{next_some, next_none, slots_push, slots_many}
use Rattle.cn_log.proofs.ListLemmas.EntryPositions.{members_few}
use Rattle.cn_log.proofs.batch.put_batch.Goals.{in-Some, in_default}
use Rattle.cn_log.proofs.batch.put_batch.Goals as goal

pub push_reserved-requires : goal.push_reserved-requires
push_reserved-requires c =
    let few = members_few c.loop-p.p 0 c.args.batch.now in
    let i = c.loop-p.invariant in
    let many = ap length i.entries ∙ length-append c.args.entries.now.items (members c.loop-p.p 0 c.args.batch.now) in
    omega (arith, few, i.room, many, c.loop-p-test.true, c.requires.room, c.loop-p.entries.ok, c.args.entries.now.ok)

pub push_reserved-requires-in-Some : goal.push_reserved-requires-in-Some
push_reserved-requires-in-Some c =
    let few = members_few c.loop-p.p 0 c.args.batch.now in
    let i = c.loop-p.invariant in
    let many = ap length i.slots ∙ length-append c.args.slots.now.items (each_slot c.args.slot (members c.loop-p.p 0 c.args.batch.now))
    ∙ ap (λ z. length c.args.slots.now.items + z) (slots_many c.args.slot (members c.loop-p.p 0 c.args.batch.now)) in
    omega (arith, few, i.slots_room, many, c.loop-p-test.true, c.requires.slots_room, c.loop-p.slots.ok, c.args.slots.now.ok)

pub loop-p-preserved : goal.loop-p-preserved
loop-p-preserved c =
    let i = c.loop-p.invariant in
    let done = members c.loop-p.p 0 c.args.batch.now in
    elim c.match-of.branch [
      | in-Some w ↦ (
          let e = w.in-Some.entry in
          let n = next_some c.loop-p.p c.args.batch.now e (sym c.of.ensures ∙ w.in-Some.is) in
          record {
            entries = ap (λ v. v.items) w.entries-is ∙ w.push_reserved.ensures.items ∙ ap (λ l. l ++ e ∷ []) i.entries ∙ append_assoc c.args.entries.now.items done (e ∷ [])
                ∙ ap (λ l. c.args.entries.now.items ++ l) (sym n);
            slots = ap (λ v. v.items) w.slots-is ∙ w.push_reserved-in-Some.ensures.items ∙ ap (λ l. l ++ c.args.slot ∷ []) i.slots
                ∙ append_assoc c.args.slots.now.items (each_slot c.args.slot done) (c.args.slot ∷ [])
                ∙ ap (λ l. c.args.slots.now.items ++ l) (sym (slots_push c.args.slot done e)) ∙ ap (λ l. c.args.slots.now.items ++ each_slot c.args.slot l) (sym n);
            room = ap vec_capacity w.entries-is ∙ w.push_reserved.ensures.capacity ∙ i.room;
            slots_room = ap vec_capacity w.slots-is ∙ w.push_reserved-in-Some.ensures.capacity ∙ i.slots_room;
          }
          )
      | in_default w ↦ (
          let n = next_none c.loop-p.p c.args.batch.now (sym c.of.ensures ∙ w.in_default.is) in
          record {
            entries = ap (λ v. v.items) w.entries-is ∙ i.entries ∙ ap (λ l. c.args.entries.now.items ++ l) (sym n);
            slots = ap (λ v. v.items) w.slots-is ∙ i.slots ∙ ap (λ l. c.args.slots.now.items ++ each_slot c.args.slot l) (sym n);
            room = ap vec_capacity w.entries-is ∙ i.room;
            slots_room = ap vec_capacity w.slots-is ∙ i.slots_room;
          }
          )
    ]
