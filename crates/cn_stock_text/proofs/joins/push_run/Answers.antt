use Rattle.std.proofs.Common.{length}
use Rattle.cn_stock_text.proofs.Words.{all_below}
use Rattle.cn_stock_text.proofs.joins.push_run.Goals as goal

pub push_steps-requires-clause-word : goal.push_steps-requires-clause-word
push_steps-requires-clause-word c = rw c.operations_of.ensures (all_below (length c.args.table.now.operations) _ c.requires.word.known)
