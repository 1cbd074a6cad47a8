use Rattle.cn_stocks.proofs.LastingLemmas.Always.{always, never}
use Rattle.cn_stocks.proofs.lasting.laws.lasting_operations_decide.Goals as goal

pub returns-clause-always : goal.returns-clause-always
returns-clause-always c t start many single l = always t start many single l

pub returns-clause-never : goal.returns-clause-never
returns-clause-never c t all = never t all
