use Rattle.cn_hall.proofs.Keeps.{steps, free_held_core}
use Rattle.cn_hall.proofs.Putting.{one_event}
use Rattle.cn_hall.proofs.transfers.put_step.Goals as goal

pub put-requires-clause-may : goal.put-requires-clause-may
put-requires-clause-may g c = steps _ _ _ _ c.requires.live c.requires.event

pub put-requires-clause-free : goal.put-requires-clause-free
put-requires-clause-free g c = free_held_core _ _ _ c.requires.live c.requires.event.held

pub returns-clause-now : goal.returns-clause-now
returns-clause-now g c = one_event _ _ _ c.requires.live c.requires.event c.put.ensures.put
