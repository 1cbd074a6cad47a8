use Rattle.std.proofs.Common.{◌≡◌, ◌<◌, length, slice_get, Some, ap, ◌∙◌, sym, arith}
use Rattle.std.proofs.lemmas.Option.{slice_get-get_or}
use Rattle.cn_proto.specs.Plan.{processes_of}
use Rattle.cn_log.specs.Batches.{entries_in, slots_from}
use Rattle.cn_log.specs.Fields.{LogFields}
use Rattle.cn_log.specs.Log.{batches}
use Rattle.cn_log.specs.Opening.{setting_of}
use Rattle.cn_log.proofs.ListLemmas.EntryPositions.{slots_as_many}
use Rattle.cn_log.proofs.log_core.LogCore.slot_at.Goals as goal

pub index-requires : goal.index-requires
index-requires c =
    let bs = batches (setting_of c.self.inside.opening.value) c.self.inside.schedule.items in
    let n = processes_of c.self.inside.opening.value.plan in
    let r : c.args.i < length (entries_in n bs) = rw (← c.self.view_is) at c.requires in
    let slots = ap (λ (s : LogFields). length s.slots) (c.behind-self.view_is ∙ c.deref.ensures) ∙ ap length c.self.invariant.0.fits.slots_are in
    omega (arith, r, slots, slots_as_many n 0 bs, c.behind-self.inside.slots.ok)

pub returns : goal.returns
returns c =
    let bs = batches (setting_of c.self.inside.opening.value) c.self.inside.schedule.items in
    let n = processes_of c.self.inside.opening.value.plan in
    let r : c.args.i < length (entries_in n bs) = rw (← c.self.view_is) at c.requires in
    let slots : c.behind-self.inside.slots.items ≡ slots_from n 0 bs = ap (λ (s : LogFields). s.slots) (c.behind-self.view_is ∙ c.deref.ensures) ∙ c.self.invariant.0.fits.slots_are in
    let low : c.args.i < length c.behind-self.inside.slots.items = omega (arith, r, ap length slots, slots_as_many n 0 bs) in
    rw (← c.self.view_is) (ap Some c.index.ensures ∙ sym (slice_get-get_or c.behind-self.inside.slots.items c.args.i c.index.result.now low) ∙ ap (λ l. slice_get l c.args.i) slots)
