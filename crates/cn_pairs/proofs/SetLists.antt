-- Sublists of the operations of a type.
use Rattle.std.proofs.Common.{◌≡◌, ℕ, zero, suc, ◌+◌, ◌-◌, ◌<◌, ◌≤◌, inl, inr, List, [], ◌∷◌, ◌++◌, length, map, take, get_or, refl, sym, ap, ◌∙◌, subst, arith, append_assoc, append-nil, All, Contains}
use Rattle.std.specs.List.{AllByRecursion, range_with_len}
use Rattle.std.proofs.lemmas.List.{get_or_default, map-append, take_more}
use Rattle.std.proofs.lemmas.List.Elements.{All-from_recursion}
use Rattle.cn_table.specs.Restriction.{AreOperations}
use Rattle.cn_table.specs.TypeTable.{TypeTable}
use Rattle.cn_table.proofs.Lists.{range_first, range_none}
use Rattle.cn_choice.proofs.ListLemmas.Members.{AllPairs-from_Pairs, Contains-from_IsIn, IsIn, IsIn-append_cases, IsIn-at, IsIn-from_Contains, IsIn-map, IsIn-map_from, Pairs, each_from}
use Rattle.cn_choice.proofs.ListLemmas.Permutations.{in_range}
use Rattle.std.specs.Prelude.{Vec}
use Rattle.std.specs.declared.alloc.Global.{Global}
use Rattle.cn_table.specs.declared.elements.Operation.{Operation}
use Rattle.cn_pairs.specs.declared.restricted.SetNumber.{SetNumber}
use Rattle.cn_pairs.specs.SetNumbers.{numbers, set_of, sets_of_size}
use Rattle.cn_pairs.specs.Sublists.{sublists}

-- ---- the sublists behind a front

-- one element of the front stands before the others
front_longer : (front : List ℕ) (x : ℕ) (lists : List (List ℕ))
    → map (λ rest. front ++ rest) (map (λ rest. x ∷ rest) lists) ≡ map (λ rest. (front ++ x ∷ []) ++ rest) lists
front_longer front x [] = refl
front_longer front x (l ∷ ls) = rw (append_assoc front (x ∷ []) l, front_longer front x ls) refl

pub no_more : (front : List ℕ) (xs : List ℕ) (more : ℕ) → more ≡ 0 → map (λ rest. front ++ rest) (sublists more xs) ≡ front ∷ []
no_more front xs more e = rw e (ap (λ (l : List ℕ). l ∷ []) (append-nil front))

pub none_left : (front : List ℕ) (from end more : ℕ) → 1 ≤ more → end ≤ from → map (λ rest. front ++ rest) (sublists more (range_with_len from (end - from))) ≡ []
none_left front from end zero some l = absurd (omega (arith, some))
none_left front from end (suc k) some l = rw (range_none from end l) refl

pub first_or_not : (front : List ℕ) (from end more : ℕ) → 1 ≤ more → from < end
    → map (λ rest. front ++ rest) (sublists more (range_with_len from (end - from)))
    ≡ map (λ rest. (front ++ from ∷ []) ++ rest) (sublists (more - 1) (range_with_len (from + 1) (end - (from + 1))))
    ++ map (λ rest. front ++ rest) (sublists more (range_with_len (from + 1) (end - (from + 1))))
first_or_not front from end zero some l = absurd (omega (arith, some))
first_or_not front from end (suc k) some l =
    let fewer : suc k - 1 ≡ k = omega arith in
    let later : List ℕ = range_with_len (from + 1) (end - (from + 1)) in
    rw (range_first from end l, fewer)
    (map-append (λ (rest : List ℕ). front ++ rest) (map (λ (rest : List ℕ). from ∷ rest) (sublists k later)) (sublists (suc k) later)
    ∙ ap (λ (ls : List (List ℕ)). ls ++ map (λ (rest : List ℕ). front ++ rest) (sublists (suc k) later)) (front_longer front from (sublists k later)))

-- ---- each sublist is a set of operations

-- an element of a sublist is one of the list, and an ascending list has ascending sublists
sub_in : (k : ℕ) (xs set : List ℕ) → IsIn set (sublists k xs) → (x : ℕ) → IsIn x set → IsIn x xs
sub_in zero xs set h x i = elim h [ inl e ↦ absurd (subst (λ (l : List ℕ). IsIn x l) (sym e) i) | inr n ↦ absurd n ]
sub_in (suc k) [] set h x i = absurd h
sub_in (suc k) (y ∷ ys) set h x i = elim (IsIn-append_cases set (map (λ (rest : List ℕ). y ∷ rest) (sublists k ys)) (sublists (suc k) ys) h) [
  | inl m ↦ (let r = IsIn-map_from (λ (rest : List ℕ). y ∷ rest) set (sublists k ys) m in
      elim (subst (λ (l : List ℕ). IsIn x l) (sym r.1) i) [ inl e ↦ inl e | inr j ↦ inr (sub_in k ys r.0 r.2 x j) ])
  | inr m ↦ inr (sub_in (suc k) ys set m x i)
]

sub_ascends : (k : ℕ) (xs set : List ℕ) → Pairs (λ x y. x < y) xs → IsIn set (sublists k xs) → Pairs (λ x y. x < y) set
sub_ascends zero xs set p h = elim h [ inl e ↦ subst (Pairs (λ x y. x < y)) e tt | inr n ↦ absurd n ]
sub_ascends (suc k) [] set p h = absurd h
sub_ascends (suc k) (y ∷ ys) set p h = elim (IsIn-append_cases set (map (λ (rest : List ℕ). y ∷ rest) (sublists k ys)) (sublists (suc k) ys) h) [
  | inl m ↦ (let r = IsIn-map_from (λ (rest : List ℕ). y ∷ rest) set (sublists k ys) m in
      subst (Pairs (λ x y. x < y)) r.1 (each_from (λ z. y < z) r.0 (λ z i. above y ys p.0 z (sub_in k ys r.0 r.2 z i)), sub_ascends k ys r.0 p.1 r.2))
  | inr m ↦ sub_ascends (suc k) ys set p.1 m
]
  where
    above : (y : ℕ) (ys : List ℕ) → AllByRecursion (λ z. y < z) ys → (z : ℕ) → IsIn z ys → y < z
    above y [] a z i = absurd i
    above y (x ∷ xs) a z i = elim i [ inl e ↦ subst (λ (w : ℕ). y < w) e a.0 | inr j ↦ above y xs a.1 z j ]

sub_long : (k : ℕ) (xs set : List ℕ) → IsIn set (sublists k xs) → length set ≡ k
sub_long zero xs set h = elim h [ inl e ↦ ap length (sym e) | inr n ↦ absurd n ]
sub_long (suc k) [] set h = absurd h
sub_long (suc k) (y ∷ ys) set h = elim (IsIn-append_cases set (map (λ (rest : List ℕ). y ∷ rest) (sublists k ys)) (sublists (suc k) ys) h) [
  | inl m ↦ (let r = IsIn-map_from (λ (rest : List ℕ). y ∷ rest) set (sublists k ys) m in ap length (sym r.1) ∙ ap suc (sub_long k ys r.0 r.2))
  | inr m ↦ sub_long (suc k) ys set m
]

range_ascends : (a n : ℕ) → Pairs (λ x y. x < y) (range_with_len a n)
range_ascends a zero = tt
range_ascends a (suc n) = (each_from (λ y. a < y) (range_with_len (a + 1) n) (λ y i. let r = in_range (a + 1) n y i in omega (arith, r.0)), range_ascends (a + 1) n)

pub set_is : (t : TypeTable) (size : ℕ) (set : List ℕ) → 1 ≤ size → Contains (sets_of_size t size) set → AreOperations t set
set_is t size set some h =
    let all : List ℕ = range_with_len 0 (length t.operations) in
    let member = IsIn-from_Contains set (sets_of_size t size) h in
    record {
      some = omega (arith, some, sub_long size all set member);
      known = All-from_recursion (λ o. o < length t.operations) set
          (each_from (λ o. o < length t.operations) set (λ o i. let r = in_range 0 (length t.operations) o (sub_in size all set member o i) in omega (arith, r.1)));
      ascending = AllPairs-from_Pairs (λ x y. x < y) set (sub_ascends size all set (range_ascends 0 (length t.operations)) member);
    }

-- ---- the sets in memory

nothing_before : (lists : List (List ℕ)) → map (λ rest. let all : List ℕ = [] ++ rest in all) lists ≡ lists
nothing_before [] = refl
nothing_before (l ∷ ls) = ap (λ (xs : List (List ℕ)). l ∷ xs) (nothing_before ls)

-- all sets stand behind no set, with nothing before them
pub all_sets : (t : TypeTable) (size end : ℕ) (sets : List (List ℕ)) → end ≡ length t.operations
    → sets ≡ map (λ rest. [] ++ rest) (sublists size (range_with_len 0 (end - 0))) → sets ≡ sets_of_size t size
all_sets t size end sets same e =
    let long : end - 0 ≡ length t.operations = omega (arith, same) in
    e ∙ (nothing_before (sublists size (range_with_len 0 (end - 0))) ∙ ap (λ (n : ℕ). sublists size (range_with_len 0 n)) long)

-- a set that is read is one of the list
pub set_listed : (sets : List (Vec Operation Global)) (lists : List (List ℕ)) (i : ℕ) (set : Vec Operation Global)
    → map (λ s. numbers s.items) sets ≡ lists → i < length sets → set ≡ get_or sets i set → Contains lists (numbers set.items)
set_listed sets lists i set e l is =
    let here : IsIn set sets = subst (λ (s : Vec Operation Global). IsIn s sets) (sym is) (IsIn-at sets i set l) in
    subst (λ (ls : List (List ℕ)). Contains ls (numbers set.items)) e
    (Contains-from_IsIn (numbers set.items) (map (λ (s : Vec Operation Global). numbers s.items) sets)
    (IsIn-map (λ (s : Vec Operation Global). numbers s.items) set sets here))

-- a set that is pushed with its number stands behind those before
pub set_told : (old new : List SetNumber) (own : SetNumber) (before : List (List ℕ)) (operations : List Operation)
    → new ≡ old ++ own ∷ [] → map set_of old ≡ before → own.operations.items ≡ operations → map set_of new ≡ before ++ numbers operations ∷ []
set_told old new own before operations e so_far same =
    ap (map set_of) e
    ∙ (map-append set_of old (own ∷ [])
    ∙ (ap (λ (ls : List (List ℕ)). ls ++ set_of own ∷ []) so_far
    ∙ ap (λ (os : List Operation). before ++ numbers os ∷ []) same))

-- each set of the list is one of operations
pub sets_are : (t : TypeTable) (size : ℕ) (sets : List (Vec Operation Global)) → 1 ≤ size → map (λ s. numbers s.items) sets ≡ sets_of_size t size
    → All (λ set. AreOperations t (numbers set.items)) sets
sets_are t size sets some e = λ k d l.
    set_is t size (numbers (get_or sets k d).items) some
    (set_listed sets (sets_of_size t size) k (get_or sets k d) e l (sym (get_or_default sets k (get_or sets k d) d l)))

-- the lists of the sets so far and the next one
pub lists_more : (sets : List (Vec Operation Global)) (i : ℕ) (d : Vec Operation Global) → i < length sets → d ≡ get_or sets i d
    → map (λ s. numbers s.items) (take (i + 1) sets) ≡ map (λ s. numbers s.items) (take i sets) ++ numbers d.items ∷ []
lists_more sets i d l is =
    ap (map (λ (s : Vec Operation Global). numbers s.items)) (take_more sets i d l)
    ∙ (map-append (λ (s : Vec Operation Global). numbers s.items) (take i sets) (get_or sets i d ∷ [])
    ∙ ap (λ (s : Vec Operation Global). map (λ (s : Vec Operation Global). numbers s.items) (take i sets) ++ numbers s.items ∷ []) (sym is))
