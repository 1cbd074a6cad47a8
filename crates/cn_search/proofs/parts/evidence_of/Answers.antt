use Rattle.std.proofs.Common.{[]}
use Rattle.cn_search.proofs.Batches.{keeps_none}
use Rattle.cn_search.proofs.parts.evidence_of.Goals as goal

pub returns : goal.returns
returns g c = c.in_ok-add_block.ensures [] (keeps_none c.args.table.now g.E.Evidence.keeps c.none-evidence.result c.none-evidence.ensures)
