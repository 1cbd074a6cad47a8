use Rattle.std.proofs.Common.{◌-◌, length}
use Rattle.std.specs.List.{flat_map, range_with_len}
use Rattle.cn_choice.specs.Canonical.{with_state}
use Rattle.cn_check.specs.Refutations.{AreRefuted, HasComeTo, counting}
use Rattle.cn_check.specs.Versions.{choices_in_version}
use Rattle.cn_check.proofs.refutation.check_entries.Given as goal

-- the choices with this state and the later ones are left, and those before are refuted
abbrev pub invariant-loop-state : goal.invariant-loop-state
invariant-loop-state l = record {
  come :
      HasComeTo (choices_in_version l.version l.table l.n) 0 (choices_in_version l.version l.table l.n) l.place
      (counting l.version l.table (flat_map (with_state (length l.table.operations) l.n) (range_with_len l.state (length l.table.states - l.state))));
  refuted : AreRefuted l.table (choices_in_version l.version l.table l.n) l.entries l.place;
}
