use Rattle.cn_hall.proofs.Keeps.{opens, free_first}
use Rattle.cn_hall.proofs.Putting.{the_first}
use Rattle.cn_hall.proofs.transfers.put_first.Goals as goal

pub put-requires-clause-may : goal.put-requires-clause-may
put-requires-clause-may g c = rw c.requires.first (opens _ _ _ c.requires.one)

pub put-requires-clause-free : goal.put-requires-clause-free
put-requires-clause-free g c = rw c.requires.first (free_first _)

pub returns-clause-now : goal.returns-clause-now
returns-clause-now g c = the_first _ _ _ c.requires.first c.put.ensures.put
