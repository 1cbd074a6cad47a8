use Rattle.std.proofs.Common.{Some, ◌∙◌, ap, refl}
use Rattle.cn_tree_rounds.proofs.turn.Turn.judged_behind.Goals as goal

pub returns-then-reads : goal.returns-then-reads
returns-then-reads c = rw (c.reads.ensures c.args.self.process ∙ c.if-reads.true) refl

pub returns-else-reads : goal.returns-else-reads
returns-else-reads c = rw (c.reads.ensures c.args.self.process ∙ c.if-reads.false) (ap Some c.judge.ensures.team)
