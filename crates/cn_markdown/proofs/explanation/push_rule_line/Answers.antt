use Rattle.cn_markdown.specs.Explanation.{rule_line}
use Rattle.cn_markdown.proofs.explanation.push_rule_line.Goals as goal

pub returns : goal.returns
unfolding rule_line
returns c = rw (← c.rule_start-start.ensures, ← c.most-most.ensures) c.write.ensures.bytes
