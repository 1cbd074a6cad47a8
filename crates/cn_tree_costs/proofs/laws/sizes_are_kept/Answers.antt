use Rattle.cn_tree_costs.proofs.Counted.{all_counted, counted}
use Rattle.cn_tree_costs.proofs.Regrouping.{merged, numbered, read, reordered, smaller}
use Rattle.cn_tree_costs.proofs.laws.sizes_are_kept.Goals as goal

pub returns-clause-counted : goal.returns-clause-counted
returns-clause-counted c = λ t sight M n k team start operations sights known witness. counted t sight M n k team start operations sights known witness

pub returns-clause-all_counted : goal.returns-clause-all_counted
returns-clause-all_counted c = λ team n k each. all_counted team n k each

pub returns-clause-any_numbers : goal.returns-clause-any_numbers
returns-clause-any_numbers c = λ t sight M processes team sizes role roles start operations sights known witness. numbered t sight M processes team sizes role roles start operations sights known witness

pub returns-clause-any_order : goal.returns-clause-any_order
returns-clause-any_order c = λ t sight sizes others shuffled has. reordered t sight sizes others shuffled has

pub returns-clause-merged : goal.returns-clause-merged
returns-clause-merged c = λ t sight a b sizes has. merged t sight a b sizes has

pub returns-clause-smaller : goal.returns-clause-smaller
returns-clause-smaller c = λ t sight sizes fewer small has. smaller t sight sizes fewer small has

pub returns-clause-read : goal.returns-clause-read
returns-clause-read c = λ t sight sizes has. read t sight sizes has
