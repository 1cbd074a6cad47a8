use Rattle.cn_log.proofs.ListLemmas.EventLists.{may_left}
use Rattle.cn_log.proofs.CallerLemmas.Knowledge.{stays, invoked, pending, stepped, replayed_batches}
use Rattle.cn_log.specs.Log.{first_world}
use Rattle.cn_log.specs.Opening.{setting_of}
use Rattle.cn_log.proofs.laws.callers_change_by_own_events.Goals as goal

pub returns-clause-front : goal.returns-clause-front
returns-clause-front c = λ o before rest may. may_left (setting_of o) before rest (first_world (setting_of o)) may

pub returns-clause-stays : goal.returns-clause-stays
returns-clause-stays c = λ o before rest p h. stays (setting_of o) before rest p h

pub returns-clause-invoked : goal.returns-clause-invoked
returns-clause-invoked c = λ o events p operation. invoked (setting_of o) events p operation

pub returns-clause-pending : goal.returns-clause-pending
returns-clause-pending c = λ o events p mine opening may is. pending (setting_of o) _ (c.rounds_agree.ensures.agrees o opening.plan) events p may mine is

pub returns-clause-stepped : goal.returns-clause-stepped
returns-clause-stepped c = λ o events p mine opening may is. stepped (setting_of o) _ (c.rounds_agree.ensures.agrees o opening.plan) events p may mine is

pub returns-clause-replayed : goal.returns-clause-replayed
returns-clause-replayed c = λ o events p opening may. replayed_batches (setting_of o) _ (c.rounds_agree.ensures.agrees o opening.plan) events p may
