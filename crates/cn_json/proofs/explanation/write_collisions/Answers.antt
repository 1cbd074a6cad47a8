use Rattle.cn_json.proofs.explanation.write_collisions.Goals as goal

pub returns-in-Some : goal.returns-in-Some
returns-in-Some c = rw c.in-Some.is c.array_of.ensures

pub returns-in-None : goal.returns-in-None
returns-in-None c = rw c.in-None.is c.array_at.ensures
