use Rattle.std.proofs.Common.{arith}
use Rattle.cn_table.specs.Restriction.{with_operations}
use Rattle.cn_number_laws.proofs.Pairs.{a_pair, set_of_two_at_least, two_at_least}
use Rattle.cn_number_laws.proofs.laws.smallest_infinite_sets.Goals as goal

pub returns : goal.returns
returns c = record {
  pair = λ t d. a_pair (λ u. (c.infinite_numbers.ensures.discerning u).0) t ((c.infinite_numbers.ensures.discerning t).1 d);
  none_smaller = λ t set d. set_of_two_at_least t set (c.splits_decide.ensures (with_operations t set) 3 (omega arith)).0 d;
  more = λ t n some d. two_at_least t n (c.splits_decide.ensures t n some).0 d;
}
