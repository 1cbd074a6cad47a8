use Rattle.std.proofs.Common.{◌∙◌, ap}
use Rattle.cn_log.specs.Fields.{LogFields}
use Rattle.cn_log.proofs.log_core.LogCore.invoke.Goals as goal

pub invariant_of-self : goal.invariant_of-self
invariant_of-self c =
    let state = c.deref_mut.ensures.value in
    let keeps = rw state at (rw c.deref-2.ensures at c.invoke.ensures.keeps) in (
      rw c.put_event.ensures.put (keeps c.self.inside.schedule.items c.self.invariant.0 (rw (← c.self.view_is) at c.requires)),
      record {
        entries = rw (c.invoke.ensures.room.entries ∙ ap (λ (s : LogFields). s.entries_room) state) c.self.invariant.1.entries;
        slots = rw (c.invoke.ensures.room.slots ∙ ap (λ (s : LogFields). s.slots_room) state) c.self.invariant.1.slots;
      },
      rw c.put_event.ensures.room c.self.invariant.2,
    )
