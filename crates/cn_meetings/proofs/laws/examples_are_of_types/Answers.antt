use Rattle.std.proofs.Common.{arith}
use Rattle.cn_meetings.proofs.Examples.{get_is_silent, quiet_bit_closed, sticky_bit_closed, swaps_closed, swaps_of}
use Rattle.cn_meetings.proofs.laws.examples_are_of_types.Goals as goal

pub returns-clause-sticky_bit : goal.returns-clause-sticky_bit
returns-clause-sticky_bit c = (sticky_bit_closed, record { start = omega arith; operations = λ g lt. lt; sight = tt })

pub returns-clause-quiet_bit : goal.returns-clause-quiet_bit
returns-clause-quiet_bit c = λ sight is. (quiet_bit_closed, record { start = omega arith; operations = λ g lt. omega arith; sight = is })

pub returns-clause-silent_operation : goal.returns-clause-silent_operation
returns-clause-silent_operation c = get_is_silent

pub returns-clause-compare_and_swap : goal.returns-clause-compare_and_swap
returns-clause-compare_and_swap c = λ k. (swaps_closed k, swaps_of k)
