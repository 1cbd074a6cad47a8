-- No process has seen its next call.
use Rattle.std.proofs.Common.{◌≡◌, ℕ, ◌+◌, ◌<◌, List, [], ◌∷◌, ◌++◌, length, take, slice_get, Some, refl, ap, ◌∙◌, arith}
use Rattle.cn_log.specs.Callers.{call_of, calls_by}
use Rattle.cn_log.specs.declared.entry.Entry.{Entry}
use Rattle.cn_log.specs.declared.event.Event.TheVariants.{Invoke}
use Rattle.cn_table.proofs.Lists.{get_front, get_low, get_push_new}
use Rattle.cn_proto.specs.Plan.{processes_of}
use Rattle.cn_log.specs.Batches.{entries_in, members}
use Rattle.cn_log.proofs.ListLemmas.EntryPositions.{in_entries}
use Rattle.cn_hall.specs.Calls.{IsUnseen, next_call}
use Rattle.cn_hall.specs.Seats.{SeatState, IsLog, caller, own_entries_seen, entries_seen, slots_seen}
use Rattle.cn_hall.proofs.LogLaws.{Called, Owned}
use Rattle.cn_log.proofs.ListLemmas.OwnLists.{number_at, to_own}

pub next_unseen : Owned → Called → (s : SeatState) (operation : ℕ) → IsLog s.core → s.process < processes_of s.core.opening.plan → IsUnseen (next_call s operation) s
next_unseen owned called s operation log lt k b at has =
    let p = s.process in
    let events = s.core.schedule in
    let next : Entry = next_call s operation in
    let calls : List Entry = calls_by p events in
    let n : ℕ = processes_of s.core.opening.plan in
    let place : ℕ = length (entries_in n (take k (slots_seen s))) + length (members p 0 b) in
    let there = to_own p (entries_seen s) place next refl (in_entries n (slots_seen s) k b p next at lt has) in
    let h = owned s.core.opening events p log.opening log.events in
    let standing : slice_get calls there.0 ≡ Some next = ap (λ l. slice_get l there.0) h.1 ∙ get_front (own_entries_seen s) h.0 there.0 next there.1 in
    let low : there.0 < length calls = get_low calls there.0 next standing in
    let number : (caller s).calls ≡ 0 + there.0 = number_at p 0 events there.0 next standing in
    let last = ap (λ l. slice_get l (length calls)) (called s.core.opening events p operation) ∙ get_push_new calls (call_of p operation (caller s).calls) in
    let count : (caller s).calls ≡ 0 + length calls = number_at p 0 (events ++ Invoke p operation ∷ []) (length calls) (call_of p operation (caller s).calls) last in
    omega (arith, low, number, count)
