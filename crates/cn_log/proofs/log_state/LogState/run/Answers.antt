use Rattle.std.proofs.Common.{ap, ◌∙◌, arith, sym, subst}
use Rattle.cn_agree.specs.Rounds.{RunsBy}
use Rattle.cn_agree.specs.Steps.{after_step}
use Rattle.cn_proto.specs.Plan.{processes_of, protocol_of}
use Rattle.cn_log.specs.Fields.{LogFields}
use Rattle.cn_log.specs.Opening.{Opening}
use Rattle.cn_log.proofs.StateLemmas.Fields.{put_back, read_caller, read_at}
use Rattle.cn_log.proofs.StateLemmas.Steps.{runs_in_rounds, runs_room, runs_good, runs_good_then, runs_begun, none_keeps, none_answer, some_operation, some_keeps, some_answer, seen_most, calls_most, calls_places, mine_low, mine_operation, entries_room, slots_room}
use Rattle.cn_log.proofs.log_state.LogState.run.Goals.{in-None, in-Some}
use Rattle.cn_log.proofs.log_state.LogState.run.Goals as goal

pub index_mut-round-requires : goal.index_mut-round-requires
index_mut-round-requires c = omega
    (arith, c.from-2.ensures, c.self.inside.rounds.ok.0, runs_in_rounds (read_caller c.openings_are_valid.ensures.agrees c.requires.at.1 c.self.view_is c.index_mut-here.ensures.value c.from.ensures))

pub step-requires-clause-of_plan : goal.step-requires-clause-of_plan
step-requires-clause-of_plan c =
    let here = read_caller c.openings_are_valid.ensures.agrees c.requires.at.1 c.self.view_is c.index_mut-here.ensures.value c.from.ensures in
    let round = read_at c.self.inside.rounds.items c.index_mut-round.ensures.value c.from-2.ensures in
    subst (λ (o : Opening). RunsBy o.plan c.index_mut-round.result.now) (sym c.opening.view_is)
    (runs_good here _ round)

pub step-requires-clause-begun : goal.step-requires-clause-begun
step-requires-clause-begun c =
    let here = read_caller c.openings_are_valid.ensures.agrees c.requires.at.1 c.self.view_is c.index_mut-here.ensures.value c.from.ensures in
    let round = read_at c.self.inside.rounds.items c.index_mut-round.ensures.value c.from-2.ensures in
    let good = runs_good here _ round in
    let given = runs_begun here _ round in
    λ none. (let empty = (c.openings_are_valid.ensures.begun _ good c.args.p c.requires.at.1.process).0 none in let there = given.1 in absurd (cc (empty, there)))

pub step-requires-clause-undecided : goal.step-requires-clause-undecided
step-requires-clause-undecided c =
    let here = read_caller c.openings_are_valid.ensures.agrees c.requires.at.1 c.self.view_is c.index_mut-here.ensures.value c.from.ensures in
    let round = read_at c.self.inside.rounds.items c.index_mut-round.ensures.value c.from-2.ensures in
    (runs_begun here _ round).2

pub decision-requires : goal.decision-requires
decision-requires c =
    let here = read_caller c.openings_are_valid.ensures.agrees c.requires.at.1 c.self.view_is c.index_mut-here.ensures.value c.from.ensures in
    let round = read_at c.self.inside.rounds.items c.index_mut-round.ensures.value c.from-2.ensures in
    let next = c.step.ensures.world ∙ ap (λ (o : Opening). after_step (protocol_of o.plan) c.args.p c.index_mut-round.result.now) c.opening.view_is in
    let size = (c.openings_are_valid.ensures.sizes _ (runs_good_then here round next)).1 in
    let lt = c.requires.at.1.process in
    omega (arith, size, lt)

pub replay_batch-requires-clause-slot : goal.replay_batch-requires-clause-slot
replay_batch-requires-clause-slot c = runs_room (read_caller c.openings_are_valid.ensures.agrees c.requires.at.1 c.self.view_is c.index_mut-here.ensures.value c.from.ensures)

pub replay_batch-requires-clause-operations : goal.replay_batch-requires-clause-operations
replay_batch-requires-clause-operations c =
    let here = read_caller c.openings_are_valid.ensures.agrees c.requires.at.1 c.self.view_is c.index_mut-here.ensures.value c.from.ensures in
    let round = read_at c.self.inside.rounds.items c.index_mut-round.ensures.value c.from-2.ensures in
    let next = c.step.ensures.world ∙ ap (λ (o : Opening). after_step (protocol_of o.plan) c.args.p c.index_mut-round.result.now) c.opening.view_is in
    some_operation here round next (sym c.decision.ensures.value ∙ c.in-Some.is)

pub returns-clause-keeps : goal.returns-clause-keeps
returns-clause-keeps c =
    let round = read_at c.self.inside.rounds.items c.index_mut-round.ensures.value c.from-2.ensures in
    let next = c.step.ensures.world ∙ ap (λ (o : Opening). after_step (protocol_of o.plan) c.args.p c.index_mut-round.result.now) c.opening.view_is in
    let n = c.processes-processes.ensures.number ∙ ap (λ (o : Opening). processes_of o.plan) c.opening.view_is in
    λ s at.
    let here = read_caller c.openings_are_valid.ensures.agrees at c.self.view_is c.index_mut-here.ensures.value c.from.ensures in
    elim c.match-decision.branch [
      | in-None w ↦ rw (
        w.self-inside-is,
        c.enter.ensures.entries,
        c.enter.ensures.slots,
        c.enter.ensures.fixed,
        c.enter.ensures.room,
        c.enter.ensures.slots_room,
        c.from-2.ensures,
        n,
        put_back c.self.inside.callers.items _ c.index_mut-here.ensures.value,
      )
          (none_keeps here round next (sym c.decision.ensures.value ∙ w.in-None.is))
      | in-Some w ↦ rw (w.self-inside-is, c.enter.ensures.entries, c.enter.ensures.slots, c.enter.ensures.fixed, c.enter.ensures.room, c.enter.ensures.slots_room, c.from.ensures, c.from-2.ensures, n)
          (some_keeps here round next (sym c.decision.ensures.value ∙ w.in-Some.is)
          w.replay_batch.new.here w.replay_batch.ensures.replayed_slots w.replay_batch.ensures.replayed_entries w.replay_batch.ensures.calls_places w.replay_batch.ensures.calls_seen
          w.replay_batch.ensures.calls w.replay_batch.ensures.phase w.replay_batch.ensures.state w.replay_batch.ensures.known)
    ]

pub returns-clause-answer : goal.returns-clause-answer
returns-clause-answer c =
    let round = read_at c.self.inside.rounds.items c.index_mut-round.ensures.value c.from-2.ensures in
    let next = c.step.ensures.world ∙ ap (λ (o : Opening). after_step (protocol_of o.plan) c.args.p c.index_mut-round.result.now) c.opening.view_is in
    λ s at.
    let here = read_caller c.openings_are_valid.ensures.agrees at c.self.view_is c.index_mut-here.ensures.value c.from.ensures in
    elim c.match-decision.branch [
      | in-None w ↦ w.result-is ∙ none_answer here round next (sym c.decision.ensures.value ∙ w.in-None.is)
      | in-Some w ↦ w.result-is ∙ some_answer here round next (sym c.decision.ensures.value ∙ w.in-Some.is) w.replay_batch.result w.replay_batch.ensures.answer
    ]

pub replay_batch-requires-clause-replayed_entries : goal.replay_batch-requires-clause-replayed_entries
replay_batch-requires-clause-replayed_entries c = seen_most
    (read_caller c.openings_are_valid.ensures.agrees c.requires.at.1 c.self.view_is c.index_mut-here.ensures.value c.from.ensures) c.openings_are_valid.ensures.opening.few

pub replay_batch-requires-clause-calls_places : goal.replay_batch-requires-clause-calls_places
replay_batch-requires-clause-calls_places c = calls_places (read_caller c.openings_are_valid.ensures.agrees c.requires.at.1 c.self.view_is c.index_mut-here.ensures.value c.from.ensures)

pub replay_batch-requires-clause-calls_seen : goal.replay_batch-requires-clause-calls_seen
replay_batch-requires-clause-calls_seen c = calls_most
    (read_caller c.openings_are_valid.ensures.agrees c.requires.at.1 c.self.view_is c.index_mut-here.ensures.value c.from.ensures) c.openings_are_valid.ensures.opening.few

pub replay_batch-requires-clause-mine : goal.replay_batch-requires-clause-mine
replay_batch-requires-clause-mine c = mine_low (read_caller c.openings_are_valid.ensures.agrees c.requires.at.1 c.self.view_is c.index_mut-here.ensures.value c.from.ensures)

pub replay_batch-requires-clause-operation : goal.replay_batch-requires-clause-operation
replay_batch-requires-clause-operation c = mine_operation (read_caller c.openings_are_valid.ensures.agrees c.requires.at.1 c.self.view_is c.index_mut-here.ensures.value c.from.ensures)

pub enter-requires-clause-slot : goal.enter-requires-clause-slot
enter-requires-clause-slot c = omega
    (arith, runs_room (read_caller c.openings_are_valid.ensures.agrees c.requires.at.1 c.self.view_is c.index_mut-here.ensures.value c.from.ensures), c.openings_are_valid.ensures.opening.few)

pub enter-requires-clause-room : goal.enter-requires-clause-room
enter-requires-clause-room c =
    λ next. (
    let room = entries_room (read_caller c.openings_are_valid.ensures.agrees c.requires.at.1 c.self.view_is c.index_mut-here.ensures.value c.from.ensures) next in
    let n = (c.processes-processes.ensures.number ∙ ap (λ (o : Opening). processes_of o.plan) c.opening.view_is) in
    omega (arith, room, n, c.requires.room.entries, ap (λ (k : LogFields). k.entries_room) c.self.view_is, c.self.inside.entries.ok))

pub enter-requires-clause-slots_room : goal.enter-requires-clause-slots_room
enter-requires-clause-slots_room c =
    λ next. (
    let room = slots_room (read_caller c.openings_are_valid.ensures.agrees c.requires.at.1 c.self.view_is c.index_mut-here.ensures.value c.from.ensures) next in
    let n = (c.processes-processes.ensures.number ∙ ap (λ (o : Opening). processes_of o.plan) c.opening.view_is) in
    omega (arith, room, n, c.requires.room.slots, ap (λ (k : LogFields). k.slots_room) c.self.view_is, c.self.inside.slots.ok))
