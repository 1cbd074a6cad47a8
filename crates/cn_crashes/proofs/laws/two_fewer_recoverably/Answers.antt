use Rattle.std.proofs.Common.{◌-◌, ◌≤◌, arith}
use Rattle.cn_crashes.proofs.laws.two_fewer_recoverably.Goals as goal

pub returns : goal.returns
returns g c t n P closed four known con =
    let some : 2 ≤ n = omega (arith, four) in
    let discerning = c.consensus_needs_a_witness.ensures t n P closed some known con in
    c.recording_is_enough.ensures t (n - 2) (omega (arith, four))
    (c.at_least_the_number_less_two.ensures.recording t n four discerning)
