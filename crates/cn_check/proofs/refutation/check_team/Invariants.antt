use Rattle.std.proofs.Common.{◌<◌, ◌∷◌, All, length}
use Rattle.cn_choice.specs.Canonical.{with_first}
use Rattle.cn_choice.specs.Rising.{rising_after}
use Rattle.cn_check.specs.Refutations.{AreRefuted, HasComeTo, counting}
use Rattle.cn_check.specs.Versions.{choices_in_version}
use Rattle.cn_check.proofs.RefutationLemmas.{beside}
use Rattle.cn_check.proofs.refutation.check_team.Given as goal

-- the choices with this list of team B and the later ones are left, and those before are refuted
abbrev pub invariant-loop-b : goal.invariant-loop-b
invariant-loop-b l = record {
  known : All (λ operation. operation < length l.table.operations) l.b.items;
  come :
      HasComeTo (choices_in_version l.version l.table l.n) l.start (counting l.version l.table (with_first (length l.table.operations) l.n l.state.0 l.a)) l.place
      (counting l.version l.table (beside l.version l.table l.state.0 l.a (l.b.items ∷ rising_after (length l.table.operations) l.b.items)));
  refuted : AreRefuted l.table (choices_in_version l.version l.table l.n) l.entries l.place;
}

abbrev pub decreases-loop-b : goal.decreases-loop-b
decreases-loop-b l = length (rising_after (length l.table.operations) l.b.items)
