use Rattle.cn_hall.proofs.Keeps.{seats, free_held_core}
use Rattle.cn_hall.proofs.Putting.{one_seat}
use Rattle.cn_hall.proofs.transfers.put_seat.Goals as goal

pub put-requires-clause-may : goal.put-requires-clause-may
put-requires-clause-may g c = seats _ _ _ _ c.requires.live c.requires.count

pub put-requires-clause-free : goal.put-requires-clause-free
put-requires-clause-free g c = free_held_core _ _ _ c.requires.live c.requires.count.held

pub returns-clause-now : goal.returns-clause-now
returns-clause-now g c = one_seat _ _ _ c.requires.live c.requires.count c.put.ensures.put
