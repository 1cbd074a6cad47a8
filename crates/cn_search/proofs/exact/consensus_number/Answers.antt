use Rattle.std.proofs.lemmas.Result.{IfOk-weaker}
use Rattle.cn_search.proofs.NumberLemmas.{same_number}
use Rattle.cn_search.proofs.exact.consensus_number.Goals as goal

pub returns : goal.returns
returns g c = IfOk-weaker c.number_of_all.result _ _ (λ n h. same_number c.args.table.now c.in_ok-searched.searched c.in_ok-searched.ensures n h) c.number_of_all.ensures
