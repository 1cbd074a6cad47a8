-- The changes that are told are changes of the type.
use Rattle.std.proofs.Common.{◌≡◌, ℕ, ◌+◌, ◌-◌, List, [], ◌∷◌, map, All, Bool, true, false, refl, subst, sym}
use Rattle.std.specs.Prelude.{◌==◌}
use Rattle.std.specs.List.{AllByRecursion, flat_map}
use Rattle.std.proofs.lemmas.List.Elements.{All-from_recursion, recursion_from_All}
use Rattle.cn_table.specs.TypeTable.{TypeTable}
use Rattle.cn_unread_number.specs.declared.bounds.NumberBounds.{NumberBounds}
use Rattle.cn_changes.specs.Changes.{IsChange, IsTarget}
use Rattle.cn_changes.specs.Greatest.{greatest_first, if_rank, of_rank, rank}
use Rattle.cn_changes.specs.Less.{is_less}
use Rattle.cn_changes.specs.Pairs.{ArePairNumbers, told_if}
use Rattle.cn_changes.specs.Told.{AreAllNumbers, AreNextNumbers}
use Rattle.cn_changes.specs.declared.change.Change.{Change}
use Rattle.cn_changes.specs.declared.greatest.TheConstants.{GREATEST_RANK}
use Rattle.cn_changes.specs.declared.kind.NumberKind.{NumberKind}
use Rattle.cn_changes.specs.declared.numbers.ChangeNumber.{ChangeNumber}
use Rattle.cn_changes.specs.declared.numbers.NextNumbers.{NextNumbers}
use Rattle.cn_changes.specs.declared.pairs.ChangePair.{ChangePair}
use Rattle.cn_changes.specs.declared.pairs.PairNumber.{PairNumber}
use Rattle.cn_changes.specs.declared.pairs.PairNumbers.{PairNumbers}
use Rattle.cn_changes.specs.declared.pairs.TheConstants.{MOST_PAIRS}
use Rattle.cn_changes.specs.declared.targets.Target.{Target}
use Rattle.cn_changes.proofs.Cutting.{each_part}
use Rattle.cn_changes.proofs.Known.{IsKnownPair, changes_known, pairs_known, targets_known}
use Rattle.cn_changes.proofs.Ranges.{each_in_range}

-- what holds of all images holds of the image of each
of_images : {X Y : Type 0} (P : Y → Type 0) (f : X → Y) (xs : List X) → AllByRecursion P (map f xs) → AllByRecursion (λ x. P (f x)) xs
of_images P f [] h = tt
of_images P f (x ∷ xs) h = (h.0, of_images P f xs h.1)

abbrev pub IsKnownNext : TypeTable → NextNumbers → Type 0
IsKnownNext t x = IsTarget t x.target × All (λ r. IsChange t r.change) x.numbers.items

module _ (kind : NumberKind) (t : TypeTable) where
  changes_are : (x : NextNumbers) → IsTarget t x.target → AreNextNumbers kind t x → All (λ r. IsChange t r.change) x.numbers.items
  changes_are x is are =
      let of : ChangeNumber → Change = λ r. r.change in
      All-from_recursion (λ r. IsChange t r.change) x.numbers.items
      (of_images (IsChange t) of x.numbers.items
      (recursion_from_All (IsChange t) (map of x.numbers.items) (subst (All (IsChange t)) (sym are.listed) (changes_known t x.target is))))

  each_next : (told : List NextNumbers) → AllByRecursion (λ x. IsTarget t x.target) told → AllByRecursion (AreNextNumbers kind t) told → AllByRecursion (IsKnownNext t) told
  each_next [] targets numbers = tt
  each_next (x ∷ xs) targets numbers = ((targets.0, changes_are x targets.0 numbers.0), each_next xs targets.1 numbers.1)

  pub nexts_known : (told : List NextNumbers) → AreAllNumbers kind t told → All (IsKnownNext t) told
  nexts_known told are =
      let of : NextNumbers → Target = λ x. x.target in
      All-from_recursion (IsKnownNext t) told
      (each_next told
      (of_images (IsTarget t) of told (recursion_from_All (IsTarget t) (map of told) (subst (All (IsTarget t)) (sym are.listed) (targets_known t))))
      (recursion_from_All (AreNextNumbers kind t) told are.numbers))

-- ---- in another order

module _ {X : Type 0} (number_of : X → NumberBounds) (P : X → Type 0) where
  one_rank : (k : ℕ) (x : X) → P x → (b : Bool) → b ≡ (rank (number_of x) == k) → AllByRecursion P (if_rank number_of k x)
  one_rank k x is true e = rw (← e) (is, tt)
  one_rank k x is false e = rw (← e) tt

  each_sorted : (most : ℕ) (xs : List X) → AllByRecursion P xs → AllByRecursion P (greatest_first number_of most xs)
  unfolding greatest_first
  each_sorted most xs all =
      each_in_range P (λ k. of_rank number_of (most - k) xs) (most + 1)
      (λ k l. each_part P P (if_rank number_of (most - k)) xs all (λ x is. one_rank (most - k) x is (rank (number_of x) == (most - k)) refl))

module _ (kind : NumberKind) (t : TypeTable) (number : NumberBounds) where
  one_told : (p : PairNumber) → IsKnownPair t p.pair → (b : Bool) → b ≡ is_less number p.number → AllByRecursion (λ x. IsKnownPair t x.pair) (told_if number p)
  one_told p is true e = rw (← e) (is, tt)
  one_told p is false e = rw (← e) tt

  pub raising_known : (told : PairNumbers) → ArePairNumbers kind t number told → All (λ x. IsKnownPair t x.pair) told.raising.items
  raising_known told are =
      let of : PairNumber → ChangePair = λ x. x.pair in
      let P : PairNumber → Type 0 = λ x. IsKnownPair t x.pair in
      let each : AllByRecursion P are.all =
      of_images (IsKnownPair t) of are.all
      (recursion_from_All (IsKnownPair t) (map of are.all) (subst (All (IsKnownPair t)) (sym are.numbers.listed) (pairs_known t MOST_PAIRS))) in
      All-from_recursion P told.raising.items
      (subst (AllByRecursion P) (sym are.raising)
      (each_sorted (λ (x : PairNumber). x.number) P GREATEST_RANK (flat_map (told_if number) are.all)
      (each_part P P (told_if number) are.all each (λ p is. one_told p is (is_less number p.number) refl))))
