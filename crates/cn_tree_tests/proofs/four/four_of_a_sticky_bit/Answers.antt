use Rattle.std.proofs.Common.{◌≡◌, ◌≤◌, arith, length, refl}
use Rattle.cn_tree_tests.proofs.Fitting.{bits, bits_fit}
use Rattle.cn_tree_tests.proofs.four.four_of_a_sticky_bit.Goals as goal

pub new-requires-clause-fits : goal.new-requires-clause-fits
new-requires-clause-fits g c =
    let some : 1 ≤ length c.in_ok-table.table.states = omega arith in
    let two : 2 ≤ length c.in_ok-table.table.operations = omega arith in
    let items : c.push-3.new.self.items ≡ bits =
    rw (
      c.in_ok-push-3.ensures.items,
      c.in_ok-push-2.ensures.items,
      c.in_ok-push.ensures.items,
      c.new-meetings.ensures.items,
      c.in_ok-meeting_of.ensures,
      c.in_ok-meeting_of-2.ensures,
      c.in_ok-meeting_of-3.ensures,
    ) refl in
    rw (c.in_ok-teams.ensures, items) (bits_fit c.in_ok-table.table some two)
