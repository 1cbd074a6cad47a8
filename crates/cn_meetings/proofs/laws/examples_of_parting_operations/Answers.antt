use Rattle.cn_meetings.proofs.Examples.{quiet_bit_got, quiet_bit_read, sticky_bit_parts, swaps_part}
use Rattle.cn_meetings.proofs.laws.examples_of_parting_operations.Goals as goal

pub returns-clause-sticky_bit : goal.returns-clause-sticky_bit
returns-clause-sticky_bit c = sticky_bit_parts

pub returns-clause-quiet_bit : goal.returns-clause-quiet_bit
returns-clause-quiet_bit c = quiet_bit_read

pub returns-clause-silent_operation : goal.returns-clause-silent_operation
returns-clause-silent_operation c = quiet_bit_got

pub returns-clause-compare_and_swap : goal.returns-clause-compare_and_swap
returns-clause-compare_and_swap c = swaps_part
