use Rattle.cn_changes.proofs.ToldKnown.{nexts_known, raising_known}
use Rattle.cn_changes.proofs.laws.told_changes_are_known.Goals as goal

pub returns : goal.returns
returns c = record { nexts = nexts_known; pairs = raising_known }
