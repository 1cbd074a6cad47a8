use Rattle.std.proofs.Common.{◌∙◌, refl}
use Rattle.cn_tree_rounds.proofs.turn.Turn.behind.Goals as goal

pub returns-then-looks : goal.returns-then-looks
returns-then-looks c = rw (c.looks.ensures c.args.self.process ∙ c.if-looks.true) refl

pub returns-else-looks : goal.returns-else-looks
returns-else-looks c = rw (c.looks.ensures c.args.self.process ∙ c.if-looks.false) refl
