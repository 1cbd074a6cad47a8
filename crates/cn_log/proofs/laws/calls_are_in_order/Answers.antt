use Rattle.cn_log.proofs.CallerLemmas.OwnCalls.{calls_grow, calls_stay, called, own, own_stepped, made, seen_made}
use Rattle.cn_log.specs.Opening.{setting_of}
use Rattle.cn_log.proofs.laws.calls_are_in_order.Goals as goal

pub returns-clause-grow : goal.returns-clause-grow
returns-clause-grow c = λ before rest p. calls_grow p before rest

pub returns-clause-stay : goal.returns-clause-stay
returns-clause-stay c = λ before rest p h. calls_stay p before rest h

pub returns-clause-called : goal.returns-clause-called
returns-clause-called c = λ o events p operation. called (setting_of o) events p operation

pub returns-clause-own : goal.returns-clause-own
returns-clause-own c = λ o events p opening may. own (setting_of o) _ (c.rounds_agree.ensures.agrees o opening.plan) p events may

pub returns-clause-own_stepped : goal.returns-clause-own_stepped
returns-clause-own_stepped c = λ o events p mine opening may is. own_stepped (setting_of o) _ (c.rounds_agree.ensures.agrees o opening.plan) p events mine may is

pub returns-clause-made : goal.returns-clause-made
returns-clause-made c = λ o events p opening may. made (setting_of o) _ (c.rounds_agree.ensures.agrees o opening.plan) p events may

pub returns-clause-seen_made : goal.returns-clause-seen_made
returns-clause-seen_made c = λ o events p q opening may. seen_made (setting_of o) _ (c.rounds_agree.ensures.agrees o opening.plan) p events may q
