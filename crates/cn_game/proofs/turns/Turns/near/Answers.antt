use Rattle.cn_game.proofs.turns.Turns.near.Goals as goal

pub returns-then-self-clause-listed : goal.returns-then-self-clause-listed
returns-then-self-clause-listed c = rw c.self.view_is at c.with_pair.ensures.listed

pub returns-then-self-clause-all : goal.returns-then-self-clause-all
returns-then-self-clause-all c = rw c.self.view_is at c.with_pair.ensures.all
