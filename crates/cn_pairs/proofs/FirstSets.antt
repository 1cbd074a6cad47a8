-- The first sets with a number.
use Rattle.std.proofs.Common.{◌≡◌, ◌≢◌, ℕ, zero, suc, ◌+◌, ◌<◌, ◌≤◌, List, [], ◌∷◌, ◌++◌, length, map, take, drop, get_or, Bool, true, false, cond, refl, sym, ap, ◌∙◌, subst, arith, append-nil, true≢false, ◌↔◌, All, Contains}
use Rattle.std.specs.List.{AllByRecursion, filter}
use Rattle.std.proofs.lemmas.List.{length-map, map-append, nil_from_length, take-append-drop}
use Rattle.std.proofs.lemmas.Bool.{eq-eqb, eqb-true}
use Rattle.std.proofs.lemmas.List.Elements.{All-contains, All-from_recursion, filter_more}
use Rattle.cn_table.specs.Restriction.{with_operations}
use Rattle.cn_table.specs.TypeTable.{TypeTable}
use Rattle.cn_choice.proofs.ListLemmas.Members.{Contains-from_IsIn, IsIn, IsIn-map, IsIn-map_from, each_from}
use Rattle.cn_search.specs.Numbers.{HasNumber}
use Rattle.cn_search.specs.declared.exact.ConsensusNumber.{ConsensusNumber}
use Rattle.cn_search.specs.declared.exact.ConsensusNumber.TheVariants.{Finite, Infinite}
use Rattle.std.specs.Prelude.{◌==◌, Vec, vec_len}
use Rattle.std.specs.declared.alloc.Global.{Global}
use Rattle.cn_table.specs.declared.elements.Operation.{Operation}
use Rattle.cn_pairs.specs.Firsts.{AreFirstWith}
use Rattle.cn_pairs.specs.SetNumbers.{AreSetNumbers, IsSetNumber, numbers, set_lists, set_of, sets_of_size}
use Rattle.cn_pairs.specs.Smallest.{AreSmallest, HasNumberWith, NoneHas, same_number}
use Rattle.cn_pairs.specs.declared.restricted.SetNumber.{SetNumber}
use Rattle.cn_pairs.proofs.Firsts.{Tells, first_by_test, first_full, first_more, first_other, none_first, one_first}
use Rattle.cn_pairs.proofs.OneNumber.{one_number}
use Rattle.cn_pairs.proofs.SetLists.{lists_more}

take_nil : {X : Type 0} (n : ℕ) (xs : List X) → xs ≡ [] → take n xs ≡ []
take_nil zero [] e = refl
take_nil zero (x ∷ xs) e = absurd (cc e)
take_nil (suc n) [] e = refl
take_nil (suc n) (x ∷ xs) e = absurd (cc e)

-- one element more at the end of a list of which so many are taken
take_longer : {X : Type 0} (n : ℕ) (xs : List X) (x : X) → length (take n xs) < n → take n (xs ++ x ∷ []) ≡ take n xs ++ x ∷ []
take_longer zero xs x l = absurd (omega (arith, l))
take_longer (suc n) [] x l = ap (λ ys. x ∷ ys) (take_nil n [] refl)
take_longer (suc n) (y ∷ xs) x l = ap (λ ys. y ∷ ys) (take_longer n xs x (omega (arith, l)))

take_full : {X : Type 0} (n : ℕ) (xs : List X) (x : X) → n ≤ length (take n xs) → take n (xs ++ x ∷ []) ≡ take n xs
take_full zero xs x l = take_zero (xs ++ x ∷ []) ∙ sym (take_zero xs)
  where
    take_zero : {X : Type 0} (xs : List X) → take 0 xs ≡ []
    take_zero [] = refl
    take_zero (x ∷ xs) = refl
take_full (suc n) [] x l = absurd (omega (arith, l))
take_full (suc n) (y ∷ xs) x l = ap (λ ys. y ∷ ys) (take_full n xs x (omega (arith, l)))

abbrev pub with_number : ConsensusNumber → List SetNumber → List SetNumber
with_number number sets = filter (λ s. same_number s.number number) sets

module _ (number : ConsensusNumber) (all : List SetNumber) (i : ℕ) (s : SetNumber) (l : i < length all) (is : s ≡ get_or all i s) where
  next : with_number number (take (i + 1) all) ≡ with_number number (take i all) ++ cond (same_number s.number number) (s ∷ []) []
  next = subst
      (λ (x : SetNumber). with_number number (take (i + 1) all) ≡ with_number number (take i all) ++ cond (same_number x.number number) (x ∷ []) [])
      (sym is) (filter_more (λ (x : SetNumber). same_number x.number number) all i s l)

  with_it : same_number s.number number ≡ true → with_number number (take (i + 1) all) ≡ with_number number (take i all) ++ s ∷ []
  with_it same = next ∙ ap (λ (b : Bool). with_number number (take i all) ++ cond b (s ∷ []) []) same

  -- one more is found
  pub one_found : length (map set_of (take 12 (with_number number (take i all)))) < 12 → same_number s.number number ≡ true
      → map set_of (take 12 (with_number number (take (i + 1) all))) ≡ map set_of (take 12 (with_number number (take i all))) ++ set_of s ∷ []
  one_found room same =
      let few : length (take 12 (with_number number (take i all))) < 12 = omega (arith, room, length-map (take 12 (with_number number (take i all))) set_of) in
      ap (λ (ss : List SetNumber). map set_of (take 12 ss)) (with_it same)
      ∙ (ap (map set_of) (take_longer 12 (with_number number (take i all)) s few)
      ∙ map-append set_of (take 12 (with_number number (take i all))) (s ∷ []))

  -- it has another number
  pub other_number : same_number s.number number ≡ false
      → map set_of (take 12 (with_number number (take (i + 1) all))) ≡ map set_of (take 12 (with_number number (take i all)))
  other_number other =
      ap (λ (ss : List SetNumber). map set_of (take 12 ss))
      (next ∙ (ap (λ (b : Bool). with_number number (take i all) ++ cond b (s ∷ []) []) other ∙ append-nil (with_number number (take i all))))

  -- there is no room for more
  pub no_room : 12 ≤ length (map set_of (take 12 (with_number number (take i all))))
      → map set_of (take 12 (with_number number (take (i + 1) all))) ≡ map set_of (take 12 (with_number number (take i all)))
  no_room full = by_test (same_number s.number number) refl
    where
      by_test : (b : Bool) → same_number s.number number ≡ b
          → map set_of (take 12 (with_number number (take (i + 1) all))) ≡ map set_of (take 12 (with_number number (take i all)))
      by_test true same =
          let enough : 12 ≤ length (take 12 (with_number number (take i all))) = omega (arith, full, length-map (take 12 (with_number number (take i all))) set_of) in
          ap (λ (ss : List SetNumber). map set_of (take 12 ss)) (with_it same)
          ∙ ap (map set_of) (take_full 12 (with_number number (take i all)) s enough)
      by_test false other = other_number other

-- a set that is pushed stands behind those before
pub pushed_set : (old new : List (Vec Operation Global)) (v : Vec Operation Global) (before : List (List ℕ)) (operations : List Operation)
    → new ≡ old ++ v ∷ [] → map (λ x. numbers x.items) old ≡ before → v.items ≡ operations
    → map (λ x. numbers x.items) new ≡ before ++ numbers operations ∷ []
pushed_set old new v before operations e so_far own =
    ap (map (λ (x : Vec Operation Global). numbers x.items)) e
    ∙ (map-append (λ (x : Vec Operation Global). numbers x.items) old (v ∷ [])
    ∙ (ap (λ (ls : List (List ℕ)). ls ++ numbers v.items ∷ []) so_far
    ∙ ap (λ (os : List Operation). before ++ numbers os ∷ []) own))

-- ---- numbers tell which sets have the number

same_is : (a b : ConsensusNumber) → same_number a b ≡ true → a ≡ b
same_is (Finite m) (Finite n) e = ap Finite (eqb-true m n e)
same_is (Finite m) Infinite e = absurd (cc e)
same_is Infinite (Finite n) e = absurd (cc e)
same_is Infinite Infinite e = refl

module _ (t : TypeTable) (set : List ℕ) (own number : ConsensusNumber) (is : HasNumber (with_operations t set) own) where
  pub has_same : same_number own number ≡ true → HasNumberWith t number set
  has_same e = subst (HasNumber (with_operations t set)) (same_is own number e) is

  pub has_other : same_number own number ≡ false → HasNumberWith t number set → ⊥
  has_other e has = true≢false (sym (one_number (with_operations t set) own number is has) ∙ e)

-- ---- the sets of a size

-- by the numbers of all of them
pub first_of_size : (t : TypeTable) (size : ℕ) (number : ConsensusNumber) (all : List SetNumber) (found : List (List ℕ)) → AreSetNumbers t size all
    → found ≡ map set_of (take 12 (with_number number all)) → AreFirstWith (HasNumberWith t number) 12 (sets_of_size t size) found
first_of_size t size number all found are e =
    let tell : AllByRecursion (Tells set_of (HasNumberWith t number) (λ s. same_number s.number number)) all =
    each_from (Tells set_of (HasNumberWith t number) (λ s. same_number s.number number)) all (λ s i.
    let own : HasNumber (with_operations t (set_of s)) s.number = All-contains (IsSetNumber t) all s are.numbers (Contains-from_IsIn s all i) in
    (has_same t (set_of s) s.number number own, has_other t (set_of s) s.number number own)) in
    subst (λ (sets : List (List ℕ)). AreFirstWith (HasNumberWith t number) 12 sets found) are.listed
    (subst (AreFirstWith (HasNumberWith t number) 12 (map set_of all)) (sym e)
    (first_by_test set_of (HasNumberWith t number) (λ s. same_number s.number number) 12 all tell))

-- there is one list of them
pub told_by_numbers : (t : TypeTable) (number : ConsensusNumber) (sets : List (List ℕ)) (smallest : AreSmallest t number sets) (all : List SetNumber)
    → AreSetNumbers t smallest.size all → sets ≡ map set_of (take 12 (with_number number all))
told_by_numbers t number sets smallest all are =
    one_first (HasNumberWith t number) 12 (sets_of_size t smallest.size) sets (map set_of (take 12 (with_number number all))) smallest.first
    (first_of_size t smallest.size number all (map set_of (take 12 (with_number number all))) are refl)

-- none has the number if each has another
pub none_by_numbers : (t : TypeTable) (size : ℕ) (number : ConsensusNumber) (all : List SetNumber) → AreSetNumbers t size all
    → NoneHas t size number ↔ All (λ s. same_number s.number number ≡ false) all
none_by_numbers t size number all are = (
  λ none. All-from_recursion (λ s. same_number s.number number ≡ false) all (each_from (λ s. same_number s.number number ≡ false) all (λ s i.
      by_test s (same_number s.number number) refl (λ has. All-contains (λ set. ¬ HasNumberWith t number set) (sets_of_size t size) (set_of s) none
      (subst (λ (sets : List (List ℕ)). Contains sets (set_of s)) are.listed (Contains-from_IsIn (set_of s) (map set_of all) (IsIn-map set_of s all i))) has)
      (own s i))),
  λ other. All-from_recursion (λ set. ¬ HasNumberWith t number set) (sets_of_size t size)
      (subst (AllByRecursion (λ set. ¬ HasNumberWith t number set)) are.listed (each_from (λ set. ¬ HasNumberWith t number set) (map set_of all) (λ set i.
      let s = IsIn-map_from set_of set all i in
      λ has. has_other t (set_of s.0) s.0.number number (own s.0 s.2)
      (All-contains (λ x. same_number x.number number ≡ false) all s.0 other (Contains-from_IsIn s.0 all s.2))
      (subst (HasNumberWith t number) (sym s.1) has)))),
)
  where
    own : (s : SetNumber) → IsIn s all → HasNumber (with_operations t (set_of s)) s.number
    own s i = All-contains (IsSetNumber t) all s are.numbers (Contains-from_IsIn s all i)

    by_test : (s : SetNumber) (b : Bool) → same_number s.number number ≡ b → (HasNumberWith t number (set_of s) → ⊥)
        → HasNumber (with_operations t (set_of s)) s.number → same_number s.number number ≡ false
    by_test s true e none is = absurd (none (has_same t (set_of s) s.number number is e))
    by_test s false e none is = e

module _ (t : TypeTable) (size : ℕ) (number : ConsensusNumber) (found : Vec (Vec Operation Global) Global)
    (first : AreFirstWith (HasNumberWith t number) 12 (sets_of_size t size) (set_lists found)) where
  -- none has the number if none is found
  pub none_of_size : found.items ≡ [] → NoneHas t size number
  none_of_size empty =
      none_first (HasNumberWith t number) 11 (sets_of_size t size) (set_lists found) first
      (ap (map (λ (set : Vec Operation Global). numbers set.items)) empty)

  -- what is found is what the smallest sets are if no smaller set has the number
  pub smallest_of_size : 1 ≤ size → found.items ≢ [] → ((k : ℕ) → 1 ≤ k → k < size → NoneHas t k number) → AreSmallest t number (set_lists found)
  smallest_of_size some exist none = record {
    size = size;
    some = some;
    first = first;
    found = λ e. exist (nil_from_length found.items (sym (length-map found.items (λ (set : Vec Operation Global). numbers set.items)) ∙ ap length e));
    none_smaller = none;
  }

-- no set of one or two operations
pub up_to_two : (P : ℕ → Type 0) → P 1 → P 2 → (k : ℕ) → 1 ≤ k → k < 3 → P k
up_to_two P one two zero some l = absurd (omega (arith, some))
up_to_two P one two (suc zero) some l = one
up_to_two P one two (suc (suc zero)) some l = two
up_to_two P one two (suc (suc (suc k))) some l = absurd (omega (arith, l))

pub up_to_one : (P : ℕ → Type 0) → P 1 → (k : ℕ) → 1 ≤ k → k < 2 → P k
up_to_one P one zero some l = absurd (omega (arith, some))
up_to_one P one (suc zero) some l = one
up_to_one P one (suc (suc k)) some l = absurd (omega (arith, l))

pub nothing_in : (found : Vec (Vec Operation Global) Global) → vec_len found ≡ 0 → found.items ≡ []
nothing_in found e = nil_from_length found.items (omega (arith, e, found.ok.0))

pub something_in : (found : Vec (Vec Operation Global) Global) → (vec_len found == 0) ≡ false → found.items ≢ []
something_in found e = λ empty. true≢false (sym (eq-eqb (vec_len found) 0 (omega (arith, ap length empty, found.ok.0))) ∙ e)

-- ---- the sets one after the other

module _ (t : TypeTable) (number : ConsensusNumber) (sets : List (Vec Operation Global)) (i : ℕ) (found : List (List ℕ))
    (first : AreFirstWith (HasNumberWith t number) 12 (map (λ set. numbers set.items) (take i sets)) found) where
  module _ (set : Vec Operation Global) (l : i < length sets) (is : set ≡ get_or sets i set) where
    -- the next one has the number
    pub next_has : HasNumberWith t number (numbers set.items) → length found < 12
        → AreFirstWith (HasNumberWith t number) 12 (map (λ set. numbers set.items) (take (i + 1) sets)) (found ++ numbers set.items ∷ [])
    next_has has room =
        subst (λ (ls : List (List ℕ)). AreFirstWith (HasNumberWith t number) 12 ls (found ++ numbers set.items ∷ [])) (sym (lists_more sets i set l is))
        (first_more (HasNumberWith t number) 12 (map (λ (set : Vec Operation Global). numbers set.items) (take i sets)) found (numbers set.items) first has room)

    -- or it has another
    pub next_other : (HasNumberWith t number (numbers set.items) → ⊥)
        → AreFirstWith (HasNumberWith t number) 12 (map (λ set. numbers set.items) (take (i + 1) sets)) found
    next_other other =
        subst (λ (ls : List (List ℕ)). AreFirstWith (HasNumberWith t number) 12 ls found) (sym (lists_more sets i set l is))
        (first_other (HasNumberWith t number) 12 (map (λ (set : Vec Operation Global). numbers set.items) (take i sets)) found (numbers set.items) first other)

  -- there is no room for more
  pub no_more_room : 12 ≤ length found → AreFirstWith (HasNumberWith t number) 12 (map (λ set. numbers set.items) sets) found
  no_more_room full =
      let list : Vec Operation Global → List ℕ = λ set. numbers set.items in
      subst (λ (ls : List (List ℕ)). AreFirstWith (HasNumberWith t number) 12 ls found)
      (sym (map-append list (take i sets) (drop i sets)) ∙ ap (map list) (take-append-drop i sets))
      (first_full (HasNumberWith t number) 12 (map list (take i sets)) found (map list (drop i sets)) first full)
