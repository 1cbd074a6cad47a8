use Rattle.std.proofs.Common.{◌+◌, ◌*◌}
use Rattle.cn_check.proofs.SetLemmas.{none_at}
use Rattle.cn_check.proofs.pairs.Pairs.new.Goals as goal

pub returns : goal.returns
returns c j r q h = none_at 128 (16 * j + r) q h.2
