-- The operations of sets of a type are operations of the type.
use Rattle.std.proofs.Common.{◌≡◌, ◌≢◌, ℕ, suc, ◌<◌, ◌≤◌, List, [], ◌∷◌, length, map, get_or, All, arith, refl, sym, subst}
use Rattle.std.specs.Prelude.{Vec}
use Rattle.std.specs.declared.alloc.Global.{Global}
use Rattle.std.proofs.lemmas.List.{get_or_default}
use Rattle.std.proofs.lemmas.List.Elements.{All-cons, All-nil}
use Rattle.cn_table.specs.Restriction.{AreOperations}
use Rattle.cn_table.specs.TypeTable.{TypeTable}
use Rattle.cn_table.specs.declared.elements.Operation.{Operation}
use Rattle.cn_search.specs.declared.exact.ConsensusNumber.{ConsensusNumber}
use Rattle.cn_pairs.specs.SetNumbers.{AreSetNumbers, numbers, set_lists, set_of, sets_of_size}
use Rattle.cn_pairs.specs.Smallest.{AreSmallest, HasNumberWith}
use Rattle.cn_pairs.specs.declared.restricted.SetNumber.{SetNumber}
use Rattle.cn_pairs.proofs.Firsts.{all_first}
use Rattle.cn_pairs.proofs.SetLists.{set_is}
use Rattle.cn_json.specs.Pairs.{AreKnown}

-- what holds of all images holds of the image of each
pub of_images : {X Y : Type 0} (P : Y → Type 0) (f : X → Y) (xs : List X) → All P (map f xs) → All (λ x. P (f x)) xs
of_images P f [] h = All-nil (λ x. P (f x))
of_images P f (x ∷ xs) h =
    All-cons (λ x. P (f x)) x xs (h 0 (f x) (omega arith)) (of_images P f xs (λ k d l. h (suc k) d (omega (arith, l))))

module _ (t : TypeTable) where
  known_numbers : (operations : List Operation) → AreOperations t (numbers operations) → AreKnown t operations
  known_numbers operations is = of_images (λ o. o < length t.operations) (λ (o : Operation). o.0) operations is.known

  all_are : (size : ℕ) → 1 ≤ size → All (AreOperations t) (sets_of_size t size)
  all_are size some = λ k d l. set_is t size (get_or (sets_of_size t size) k d) some (k, l, get_or_default (sets_of_size t size) k (get_or (sets_of_size t size) k d) d l)

  sets_are : (size : ℕ) (sets : List SetNumber) → 1 ≤ size → AreSetNumbers t size sets → All (λ s. AreOperations t (set_of s)) sets
  sets_are size sets some are =
      of_images (AreOperations t) set_of sets (subst (All (AreOperations t)) (sym are.listed) (all_are size some))

  -- the sets of so many operations
  pub known_sets : (size : ℕ) (sets : List SetNumber) → 1 ≤ size → AreSetNumbers t size sets → All (λ s. AreKnown t s.operations.items) sets
  known_sets size sets some are = λ k d l. known_numbers (get_or sets k d).operations.items (sets_are size sets some are k d l)

  listed : (number : ConsensusNumber) (sets : List (List ℕ)) → AreSmallest t number sets → All (AreOperations t) sets
  listed number sets s =
      all_first (HasNumberWith t number) (AreOperations t) 12 (sets_of_size t s.size) sets s.first (all_are s.size s.some)

  -- the smallest sets
  pub known_smallest : (number : ConsensusNumber) (sets : Vec (Vec Operation Global) Global) → (sets.items ≢ [] → AreSmallest t number (set_lists sets)) → All (λ set. AreKnown t set.items) sets.items
  known_smallest number sets smallest = by_list sets.items refl
    where
      by_list : (list : List (Vec Operation Global)) → sets.items ≡ list → All (λ set. AreKnown t set.items) sets.items
      by_list [] e = subst (All (λ set. AreKnown t set.items)) (sym e) (All-nil (λ set. AreKnown t set.items))
      by_list (x ∷ xs) e =
          let some : sets.items ≢ [] = λ none. absurd (cc (sym e, none)) in
          let are = of_images (AreOperations t) (λ (set : Vec Operation Global). numbers set.items) sets.items (listed number (set_lists sets) (smallest some)) in
          λ k d l. known_numbers (get_or sets.items k d).items (are k d l)
