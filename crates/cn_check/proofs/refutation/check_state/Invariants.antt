use Rattle.std.proofs.Common.{◌+◌, ◌-◌, ◌/◌, length}
use Rattle.std.specs.List.{flat_map, range_with_len}
use Rattle.cn_choice.specs.Canonical.{with_size, with_state}
use Rattle.cn_check.specs.Refutations.{AreRefuted, HasComeTo, counting}
use Rattle.cn_check.specs.Versions.{choices_in_version}
use Rattle.cn_check.proofs.refutation.check_state.Given as goal

-- the choices with this size of team A and the later ones are left, and those before are refuted
abbrev pub invariant-loop-size : goal.invariant-loop-size
invariant-loop-size l = record {
  come :
      HasComeTo (choices_in_version l.version l.table l.n) l.start (counting l.version l.table (with_state (length l.table.operations) l.n l.state.0)) l.place
      (counting l.version l.table (flat_map (with_size (length l.table.operations) l.n l.state.0) (range_with_len l.size (l.n / 2 + 1 - l.size))));
  refuted : AreRefuted l.table (choices_in_version l.version l.table l.n) l.entries l.place;
}
