use Rattle.std.proofs.Common.{◌≡◌, ◌<◌, ◌∷◌, All, length}
use Rattle.std.specs.List.{flat_map}
use Rattle.cn_choice.specs.Canonical.{with_first, with_size}
use Rattle.cn_choice.specs.Rising.{rising_after}
use Rattle.cn_check.specs.Refutations.{AreRefuted, HasComeTo, counting}
use Rattle.cn_check.specs.Versions.{choices_in_version}
use Rattle.cn_check.proofs.refutation.check_size.Given as goal

-- the choices with this list of team A and the later ones are left, and those before are refuted
abbrev pub invariant-loop-a : goal.invariant-loop-a
invariant-loop-a l = record {
  known : All (λ operation. operation < length l.table.operations) l.a.items;
  long : length l.a.items ≡ l.size;
  come :
      HasComeTo (choices_in_version l.version l.table l.n) l.start (counting l.version l.table (with_size (length l.table.operations) l.n l.state.0 l.size)) l.place
      (counting l.version l.table (flat_map (with_first (length l.table.operations) l.n l.state.0) (l.a.items ∷ rising_after (length l.table.operations) l.a.items)));
  refuted : AreRefuted l.table (choices_in_version l.version l.table l.n) l.entries l.place;
}

abbrev pub decreases-loop-a : goal.decreases-loop-a
decreases-loop-a l = length (rising_after (length l.table.operations) l.a.items)
