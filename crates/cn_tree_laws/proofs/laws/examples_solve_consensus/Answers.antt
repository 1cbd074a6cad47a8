use Rattle.std.proofs.Common.{ℕ, ◌≡◌, arith}
use Rattle.cn_meetings.specs.Examples.{compare_and_swap, puts, quiet_bit, quiet_puts, sticky_bit, swaps}
use Rattle.cn_meetings.specs.Meeting.Sight.{Nothing, Response, State}
use Rattle.cn_tree_laws.proofs.laws.examples_solve_consensus.Goals as goal

none_is_state : ¬ (Nothing ≡ State)
none_is_state e = absurd cc

response_is_no_state : (o : ℕ) → ¬ (Response o ≡ State)
response_is_no_state o e = absurd cc

pub returns-clause-sticky_bit : goal.returns-clause-sticky_bit
returns-clause-sticky_bit c = λ n. (
    let is = c.examples_are_of_types.ensures.sticky_bit in
    c.parting_operations_are_enough.ensures.unread sticky_bit 2 puts is.0 (omega arith) c.examples_of_parting_operations.ensures.sticky_bit is.1 none_is_state n)

pub returns-clause-quiet_bit : goal.returns-clause-quiet_bit
returns-clause-quiet_bit c = λ n. (
    let is = c.examples_are_of_types.ensures.quiet_bit State tt in
    c.parting_operations_are_enough.ensures.reads quiet_bit 2 (quiet_puts State) is.0 (omega arith) c.examples_of_parting_operations.ensures.quiet_bit is.1 n)

pub returns-clause-silent_operation : goal.returns-clause-silent_operation
returns-clause-silent_operation c = λ n. (
    let is = c.examples_are_of_types.ensures.quiet_bit (Response 2) c.examples_are_of_types.ensures.silent_operation in
    c.parting_operations_are_enough.ensures.unread quiet_bit 2 (quiet_puts (Response 2)) is.0 (omega arith) c.examples_of_parting_operations.ensures.silent_operation is.1 (response_is_no_state 2) n)

pub returns-clause-compare_and_swap : goal.returns-clause-compare_and_swap
returns-clause-compare_and_swap c = λ k n two. (
    let is = c.examples_are_of_types.ensures.compare_and_swap k in
    c.parting_operations_are_enough.ensures.unread (compare_and_swap k) k (swaps k) is.0 two (c.examples_of_parting_operations.ensures.compare_and_swap k) is.1 none_is_state n)
