use Rattle.cn_pairs.proofs.FirstSets.{none_by_numbers, told_by_numbers}
use Rattle.cn_pairs.proofs.laws.numbers_tell_smallest_sets.Goals as goal

pub returns-clause-first : goal.returns-clause-first
returns-clause-first c = told_by_numbers

pub returns-clause-none : goal.returns-clause-none
returns-clause-none c = none_by_numbers
