use Rattle.cn_telling.proofs.TellLemmas.{fewer_tell, some_tells_splits, split_without_one_tells}
use Rattle.cn_telling.proofs.laws.states_tell_all_but_one.Goals as goal

pub returns-clause-splits : goal.returns-clause-splits
returns-clause-splits c t n h = some_tells_splits t n h

pub returns-clause-tells : goal.returns-clause-tells
returns-clause-tells c t n l h = split_without_one_tells t n l h

pub returns-clause-fewer : goal.returns-clause-fewer
returns-clause-fewer c t m n l u h = fewer_tell t m n l u h
