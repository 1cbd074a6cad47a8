use Rattle.std.proofs.Common.{◌≡◌, replicate, ap, ◌∙◌, None, arith, rules}
use Rattle.cn_proto.specs.Plan.{processes_of}
use Rattle.cn_log.specs.Fields.{no_calls}
use Rattle.cn_log.specs.declared.call_counts.CallCounts.{CallCounts}
use Rattle.cn_log.specs.Opening.{Opening}
use Rattle.cn_log.specs.declared.caller_state.Phase.TheVariants.{Idle}
use Rattle.cn_log.proofs.StateLemmas.Fields.{new_keeps}
use Rattle.cn_log.proofs.log_state.LogState.new.Goals as goal

pub returns-clause-keeps : goal.returns-clause-keeps
returns-clause-keeps c =
    let n : c.from-processes.result ≡ processes_of c.args.opening.now.plan = c.from-processes.ensures ∙ c.processes.ensures.number ∙ ap (λ (o : Opening). processes_of o.plan) c.opening.view_is in
    let announced : c.in_ok-from_elem.field-0.items ≡ replicate c.from-processes.result None = c.in_ok-from_elem.ensures.items_if_clones_equal (λ y h. search rules) in
    let callers : c.in_ok-from_elem-2.field-0.items ≡ replicate c.from-processes.result
    (record { replayed_slots = 0; replayed_entries = 0; calls_seen = no_calls; calls = 0; phase = Idle; state = c.opening.inside.start }) =
    c.in_ok-from_elem-2.ensures.items_if_clones_equal (λ y h. h) ∙ ap (λ (z : CallCounts). replicate c.from-processes.result
    (record { replayed_slots = 0; replayed_entries = 0; calls_seen = z; calls = 0; phase = Idle; state = c.opening.inside.start })) c.new.ensures in
    let start : c.opening.inside.start.0 ≡ c.args.opening.now.start = ap (λ (o : Opening). o.start) c.opening.view_is in
    let low = c.openings_are_valid.ensures.opening.start in
    rw (c.in_ok-untouched_rounds.ensures, announced, callers, c.in_ok-with_capacity.ensures.items, c.in_ok-with_capacity-2.ensures.items, n)
    (new_keeps _ _ c.openings_are_valid.ensures.agrees c.opening.inside.start start (omega arith) _ _)
