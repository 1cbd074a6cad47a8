use Rattle.cn_game.proofs.trap.is_caught_after.Goals as goal

pub returns-in-AheadInFirst : goal.returns-in-AheadInFirst
returns-in-AheadInFirst c = rw c.in-AheadInFirst.is c.is_answered.ensures

pub returns-in-AheadInSecond : goal.returns-in-AheadInSecond
returns-in-AheadInSecond c = rw c.in-AheadInSecond.is c.is_answered-in-AheadInSecond.ensures
