use Rattle.std.proofs.Common.{◌≡◌, ◌<◌, ◌+◌, ◌∷◌, All, length}
use Rattle.cn_choice.specs.Canonical.{with_first}
use Rattle.cn_choice.specs.Rising.{rising_after}
use Rattle.cn_check.specs.EntryTexts.{HavePassed, IsKnown}
use Rattle.cn_check.specs.Refutations.{counting}
use Rattle.cn_check.proofs.RefutationLemmas.{beside}
use Rattle.cn_check.proofs.one_pass.team_behind.Given as goal

-- the choices with this list of team B and the later ones are left; the line is known for this list
abbrev pub invariant-loop-b : goal.invariant-loop-b
invariant-loop-b l = record {
  known : All (λ operation. operation < length l.table.operations) l.b.items;
  long : length l.a + length l.b.items ≡ l.n;
  right : IsKnown l.table (record { state = l.state.0; a = l.a; b = l.b.items }) l.line.text.items l.line.greatest;
  passed :
      HavePassed l.table (counting l.version l.table (with_first (length l.table.operations) l.n l.state.0 l.a)) l.bytes
      (counting l.version l.table (beside l.version l.table l.state.0 l.a (l.b.items ∷ rising_after (length l.table.operations) l.b.items))) l.left;
}

abbrev pub decreases-loop-b : goal.decreases-loop-b
decreases-loop-b l = length (rising_after (length l.table.operations) l.b.items)
