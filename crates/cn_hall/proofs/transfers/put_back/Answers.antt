use Rattle.cn_hall.proofs.Keeps.{returns, free_held_core}
use Rattle.cn_hall.proofs.Putting.{as_it_was}
use Rattle.cn_hall.proofs.transfers.put_back.Goals as goal

pub put-requires-clause-may : goal.put-requires-clause-may
put-requires-clause-may g c = returns _ _ _ _ c.requires.live c.requires.held

pub put-requires-clause-free : goal.put-requires-clause-free
put-requires-clause-free g c = free_held_core _ _ _ c.requires.live c.requires.held

pub returns-clause-now : goal.returns-clause-now
returns-clause-now g c = as_it_was _ _ _ c.requires.live c.requires.held c.put.ensures.put
