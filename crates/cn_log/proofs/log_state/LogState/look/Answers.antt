use Rattle.std.proofs.Common.{◌≡◌, ◌≢◌, ◌==◌, ◌+◌, ℕ, true, false, get_or, ap, ◌∙◌, arith, sym, List, Option, None}
use Rattle.std.proofs.lemmas.List.{get_or_default}
use Rattle.std.proofs.lemmas.Bool.Decides.{nat_tests}
use Rattle.cn_log.specs.Batches.{entries_in}
use Rattle.cn_log.specs.Log.{Setting, batch_with, state_of}
use Rattle.cn_log.specs.declared.batch.Batch.{Batch}
use Rattle.cn_log.specs.declared.entry.Entry.{Entry}
use Rattle.cn_log.specs.declared.event.Event.{Event}
use Rattle.cn_log.specs.declared.caller_state.Phase.TheVariants.{Looks}
use Rattle.cn_proto.specs.Plan.{processes_of}
use Rattle.cn_log.specs.Fields.{count_at, batch_with_calls, Fields}
use Rattle.cn_log.specs.declared.caller_state.CallerState.{CallerState}
use Rattle.cn_log.specs.Opening.{Opening}
use Rattle.cn_log.proofs.StateLemmas.Fields.{IsReadCaller, read_caller, read_at}
use Rattle.cn_log.proofs.StateLemmas.Steps.{looks_next, looks_phase, looks_in_announced, looks_in_rounds, looks_good, looks_not_begun, gathered_is, gather_keeps, begin_keeps}
use Rattle.cn_log.proofs.log_state.LogState.look.Goals as goal

is_last : (a b : ℕ) → a ≡ b → (a == b) ≡ true
is_last a b e = grind (arith, nat_tests)

isnt_last : (a b : ℕ) → a ≢ b → (a == b) ≡ false
isnt_last a b e = grind (arith, nat_tests)

-- the announcement read, and the batch with it
gathered : {R : Type 0} {L : Setting R} {Good : R → Type 0} {s : List Event} {kept : Fields R} {p q k : ℕ} {mine : Entry} {batch : Batch} {here : CallerState}
    → (look : IsReadCaller L Good s kept p (Looks mine q batch) here)
    → (announced : Option Entry) → announced ≡ get_or kept.announced k announced → k ≡ q
    → batch_with_calls announced (count_at here.calls_seen q) q batch ≡ batch_with ((state_of L s).announced q) (entries_in L.processes ((state_of L s).caller p).seen) q batch
gathered {kept = kept} {q = q} {batch = batch} {here = here} look announced read same =
    let there = read_at kept.announced read same ∙ get_or_default kept.announced q announced None (looks_in_announced look) in
    gathered_is look _ (ap (λ o. batch_with_calls o (count_at here.calls_seen q) q batch) there)

pub index-announced-requires : goal.index-announced-requires
index-announced-requires c =
    let here = read_caller c.openings_are_valid.ensures.agrees c.requires.3 c.self.view_is c.index_mut-here.ensures.value c.from.ensures in
    omega (arith, looks_in_announced here, c.from-2.ensures, c.self.inside.announced.ok.0)

pub look-requires : goal.look-requires
look-requires c =
    let here = read_caller c.openings_are_valid.ensures.agrees c.requires.3 c.self.view_is c.index_mut-here.ensures.value c.from.ensures in
    omega (arith, looks_next here, c.openings_are_valid.ensures.opening.plan.fits.few)

pub overflow_add-q : goal.overflow_add-q
overflow_add-q c =
    let here = read_caller c.openings_are_valid.ensures.agrees c.requires.3 c.self.view_is c.index_mut-here.ensures.value c.from.ensures in
    omega (arith, looks_next here, c.openings_are_valid.ensures.opening.plan.fits.few)

pub index_mut-round-requires : goal.index_mut-round-requires
index_mut-round-requires c =
    let here = read_caller c.openings_are_valid.ensures.agrees c.requires.3 c.self.view_is c.index_mut-here.ensures.value c.from.ensures in
    let slot = ap (λ (k : CallerState). k.replayed_slots) (c.look.ensures c.requires.1 c.requires.2 (looks_phase here)) in
    omega (arith, c.from-then-q-processes.ensures, c.self.inside.rounds.ok.0, looks_in_rounds here, slot)

pub begin-requires : goal.begin-requires
begin-requires c =
    let here = read_caller c.openings_are_valid.ensures.agrees c.requires.3 c.self.view_is c.index_mut-here.ensures.value c.from.ensures in
    (c.requires.1, c.args.q + 1, _, ap (λ (k : CallerState). k.phase) (c.look.ensures c.requires.1 c.requires.2 (looks_phase here)))

pub begin-requires-then-q-processes-clause-process : goal.begin-requires-then-q-processes-clause-process
begin-requires-then-q-processes-clause-process c =
    let here = read_caller c.openings_are_valid.ensures.agrees c.requires.3 c.self.view_is c.index_mut-here.ensures.value c.from.ensures in
    let slot = ap (λ (k : CallerState). k.replayed_slots) (c.look.ensures c.requires.1 c.requires.2 (looks_phase here)) in
    let round = read_at c.self.inside.rounds.items c.index_mut-round.ensures.value (c.from-then-q-processes.ensures ∙ slot) in
    let good = looks_good here _ round in
    let size = (c.openings_are_valid.ensures.sizes _ good).1 in
    let lt = c.requires.3.process in
    omega arith

pub begin-requires-then-q-processes-clause-not_begun : goal.begin-requires-then-q-processes-clause-not_begun
begin-requires-then-q-processes-clause-not_begun c =
    let here = read_caller c.openings_are_valid.ensures.agrees c.requires.3 c.self.view_is c.index_mut-here.ensures.value c.from.ensures in
    let n = c.processes.ensures.number ∙ ap (λ (o : Opening). processes_of o.plan) c.opening.view_is in
    let slot = ap (λ (k : CallerState). k.replayed_slots) (c.look.ensures c.requires.1 c.requires.2 (looks_phase here)) in
    let round = read_at c.self.inside.rounds.items c.index_mut-round.ensures.value (c.from-then-q-processes.ensures ∙ slot) in
    let good = looks_good here _ round in
    let none = looks_not_begun here (is_last _ _ (c.if-q-processes.true ∙ n)) _ round in
    (c.openings_are_valid.ensures.begun _ good c.args.p c.requires.3.process).1 none

pub returns-then-q-processes-clause-keeps : goal.returns-then-q-processes-clause-keeps
returns-then-q-processes-clause-keeps c = λ s mine batch at. (
    let n = c.processes.ensures.number ∙ ap (λ (o : Opening). processes_of o.plan) c.opening.view_is in
    let here = read_caller c.openings_are_valid.ensures.agrees at c.self.view_is c.index_mut-here.ensures.value c.from.ensures in
    let looked = c.look.ensures mine batch (looks_phase here) in
    let slot = ap (λ (k : CallerState). k.replayed_slots) looked in
    let round = read_at c.self.inside.rounds.items c.index_mut-round.ensures.value (c.from-then-q-processes.ensures ∙ slot) in
    let begun = c.begin.ensures mine (c.args.q + 1) _ (ap (λ (k : CallerState). k.phase) looked) in
    let batch_is = gathered here c.index-announced.result.now c.index-announced.ensures c.from-2.ensures in
    rw (begun.1, looked, c.from.ensures, c.from-then-q-processes.ensures, slot)
    (begin_keeps here _ _ round c.begin.result (begun.0 ∙ batch_is) c.begin-then-q-processes.ensures.world (is_last _ _ (c.if-q-processes.true ∙ n))))

pub returns-else-q-processes-clause-keeps : goal.returns-else-q-processes-clause-keeps
returns-else-q-processes-clause-keeps c = λ s mine batch at. (
    let n = c.processes.ensures.number ∙ ap (λ (o : Opening). processes_of o.plan) c.opening.view_is in
    let here = read_caller c.openings_are_valid.ensures.agrees at c.self.view_is c.index_mut-here.ensures.value c.from.ensures in
    let looked = c.look.ensures mine batch (looks_phase here) in
    let batch_is = gathered here c.index-announced.result.now c.index-announced.ensures c.from-2.ensures in
    rw (looked, c.from.ensures) (gather_keeps here _ batch_is (isnt_last _ _ (λ e. c.if-q-processes.false (e ∙ sym n)))))
