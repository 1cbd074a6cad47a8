use Rattle.cn_log.proofs.BoundLemmas.StepBounds.{over}
use Rattle.cn_log.proofs.InvariantLemmas.Linearization.{linearized, grows, in_turn, bypass_bounded}
use Rattle.cn_log.proofs.BoundLemmas.Progress.{has_room, room_left}
use Rattle.cn_proto.specs.Plan.{processes_of}
use Rattle.cn_log.specs.Opening.{setting_of}
use Rattle.cn_log.proofs.laws.event_lists_are_linearized.Goals as goal

pub returns-clause-linearized : goal.returns-clause-linearized
returns-clause-linearized c = λ o events opening may. linearized (setting_of o) _ (c.rounds_agree.ensures.agrees o opening.plan) events may

pub returns-clause-in_turn : goal.returns-clause-in_turn
returns-clause-in_turn c = λ o events opening may. in_turn (setting_of o) _ (c.rounds_agree.ensures.agrees o opening.plan) events may

pub returns-clause-bypass : goal.returns-clause-bypass
returns-clause-bypass c = λ o events opening may. bypass_bounded (setting_of o) _ (c.rounds_agree.ensures.agrees o opening.plan) events may

pub returns-clause-room : goal.returns-clause-room
returns-clause-room c = λ o events opening may. room_left (processes_of o.plan) o.capacity _ opening.plan.fits.some
    (has_room (setting_of o) _ (c.rounds_agree.ensures.agrees o opening.plan) events may)

pub returns-clause-grows : goal.returns-clause-grows
returns-clause-grows c = λ o before after opening may. grows (setting_of o) _ (c.rounds_agree.ensures.agrees o opening.plan) before after may

pub returns-clause-wait_free : goal.returns-clause-wait_free
returns-clause-wait_free c = λ o events opening may. record { over = λ i e call. over (setting_of o) _ (c.rounds_agree.ensures.agrees o opening.plan) events may i e call }
