use Rattle.cn_search.proofs.NumberLemmas.{same_up_to}
use Rattle.cn_search.proofs.up_to.number.Goals as goal

pub returns-clause-number : goal.returns-clause-number
returns-clause-number g c = same_up_to c.args.table.now c.in_ok-searched.searched c.in_ok-searched.ensures c.args.limit c.in_ok-found.found c.in_ok-found.ensures.1.1
