use Rattle.std.proofs.Common.{◌≡◌, ◌<◌, ◌∷◌, All, length}
use Rattle.std.specs.List.{flat_map}
use Rattle.cn_choice.specs.Canonical.{with_first, with_size}
use Rattle.cn_choice.specs.Rising.{rising_after}
use Rattle.cn_check.specs.EntryTexts.{HavePassed}
use Rattle.cn_check.specs.Refutations.{counting}
use Rattle.cn_check.proofs.one_pass.size_behind.Given as goal

-- the choices with this list of team A and the later ones are left
abbrev pub invariant-loop-a : goal.invariant-loop-a
invariant-loop-a l = record {
  known : All (λ operation. operation < length l.table.operations) l.a.items;
  long : length l.a.items ≡ l.size;
  passed :
      HavePassed l.table (counting l.version l.table (with_size (length l.table.operations) l.n l.state.0 l.size)) l.bytes
      (counting l.version l.table (flat_map (with_first (length l.table.operations) l.n l.state.0) (l.a.items ∷ rising_after (length l.table.operations) l.a.items))) l.left;
}

abbrev pub decreases-loop-a : goal.decreases-loop-a
decreases-loop-a l = length (rising_after (length l.table.operations) l.a.items)
