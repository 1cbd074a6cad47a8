use Rattle.std.proofs.Common.{◌+◌, arith}
use Rattle.cn_stocks.proofs.Witnesses.{to_splits, to_witness}
use Rattle.cn_telling.proofs.TellLemmas.{some_tells_splits, split_without_one_tells}
use Rattle.cn_telling.proofs.laws.states_tell_all_but_one_process.Goals as goal

pub returns-clause-discerning : goal.returns-clause-discerning
returns-clause-discerning c t n some h = to_witness t n (some_tells_splits t n h)

pub returns-clause-tells : goal.returns-clause-tells
returns-clause-tells c t n l d = split_without_one_tells t n l (to_splits t (n + 1) (omega (arith, l)) d)
