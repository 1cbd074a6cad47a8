-- How many teams a witness has, and how many steps a tree needs.
use Rattle.std.proofs.Common.{ℕ, zero, suc, ◌≡◌, ◌≢◌, ◌⊎◌, Bool, true, false, ◌+◌, ◌-◌, ◌*◌, ◌<◌, ◌≤◌, List, [], ◌∷◌, length, refl, sym, ◌∙◌, subst, arith, nat_lt, if◌then◌else◌, inl, inr, suc-mul}
use Rattle.std.specs.Prelude.{All, sum}
use Rattle.std.proofs.lemmas.Bool.{cases_eq, cases_lt}
use Rattle.std.proofs.lemmas.Bool.Decides.{nat_tests}
use Rattle.std.proofs.lemmas.List.Elements.{All-cons, All-head, All-nil, All-tail}
use Rattle.std.proofs.Math.Nat.{mul-le-mul_right}
use Rattle.cn_table.specs.TypeTable.{TypeTable}
use Rattle.cn_meetings.specs.Meeting.{Sight}
use Rattle.cn_meetings.specs.Witness.{Has}
use Rattle.cn_meetings.proofs.Witnesses.{one_operation}
use Rattle.cn_trees.specs.FullTrees.{power}
use Rattle.cn_trees.specs.Tree.{PlanTree}
use Rattle.cn_tree_costs.specs.Cost.{IsTreeFor, cost}
use Rattle.cn_tree_costs.specs.Outline.{AreGroups, Outline, members_in, sizes_in, steps_in}
use Rattle.cn_tree_costs.specs.Outline.Outline.{End, Group, One}
use Rattle.cn_tree_costs.specs.Sizes.{HasSizes, IsDivision, block}
use Rattle.cn_tree_costs.proofs.Numbers.{long_sum, price_few, sum_cons}
use Rattle.cn_tree_costs.proofs.Outlines.{members_sum}
use Rattle.cn_tree_costs.proofs.Regrouping.{placed, start_of}
use Rattle.cn_tree_costs.proofs.Tables.{group_of_tree}

-- ---- of more values than there are numbers below m two are the same
found : (f : ℕ → ℕ) (c n : ℕ) → ((i : ℕ) × (i < n) × (f i ≡ c)) ⊎ ((i : ℕ) → i < n → f i ≢ c)
found f c zero = inr (λ i lt e. omega arith)
found f c (suc n) = elim (cases_eq (f n) c) [
  | inl e ↦ inl (n, omega arith, e)
  | inr ne ↦ elim (found f c n) [
    | inl h ↦ inl (h.0, (let l = h.1 in omega arith), h.2)
    | inr none ↦ inr (λ i lt. elim (cases_eq i n) [ inl e ↦ subst (λ j. f j ≢ c) (sym e) ne | inr other ↦ none i (omega arith) ])
  ]
]

record Alike (f : ℕ → ℕ) (n : ℕ) : Type 0 where
  pub i : ℕ
  pub j : ℕ
  pub apart : i < j
  pub known : j < n
  pub same : f i ≡ f j

-- the values but c, with one number fewer
abbrev without : ℕ → ℕ → ℕ
without c x = if nat_lt c x then x - 1 else x

without_same : (c x y : ℕ) → x ≢ c → y ≢ c → without c x ≡ without c y → x ≡ y
without_same c x y nx ny e = go (nat_lt c x) (nat_lt c y) refl refl e
  where
    go : (a b : Bool) → nat_lt c x ≡ a → nat_lt c y ≡ b → (if a then x - 1 else x) ≡ (if b then y - 1 else y) → x ≡ y
    go true true p q e = let l : c < x = grind (arith, nat_tests) in let k : c < y = grind (arith, nat_tests) in omega arith
    go true false p q e = let l : c < x = grind (arith, nat_tests) in let k : y ≤ c = grind (arith, nat_tests) in absurd (omega arith)
    go false true p q e = let l : x ≤ c = grind (arith, nat_tests) in let k : c < y = grind (arith, nat_tests) in absurd (omega arith)
    go false false p q e = e

without_less : (c x m : ℕ) → x ≢ c → x < suc m → c < suc m → without c x < m
without_less c x m ne lx lc = go (nat_lt c x) refl
  where
    go : (a : Bool) → nat_lt c x ≡ a → (if a then x - 1 else x) < m
    go true p = let l : c < x = grind (arith, nat_tests) in omega arith
    go false p = let l : x ≤ c = grind (arith, nat_tests) in omega arith

two_alike : (m n : ℕ) (f : ℕ → ℕ) → ((i : ℕ) → i < n → f i < m) → m < n → Alike f n
two_alike m zero f few lt = absurd (omega arith)
two_alike zero (suc n) f few lt = absurd (let l = few 0 (omega arith) in omega arith)
two_alike (suc m) (suc n) f few lt = elim (found f (f n) n) [
  | inl h ↦ record { i = h.0; j = n; apart = h.1; known = omega arith; same = h.2 }
  | inr none ↦ (let a = two_alike m n (λ i. without (f n) (f i)) (λ i li. without_less (f n) (f i) m (none i li) (few i (omega arith)) (few n (omega arith))) (omega arith) in
      let l = a.apart in let k = a.known in
      record { i = a.i; j = a.j; apart = a.apart; known = omega arith; same = without_same (f n) (f a.i) (f a.j) (none a.i (omega arith)) (none a.j k) a.same })
]

-- a third of three
third : (p q : ℕ) → (r : ℕ) × (r < 3) × (p ≢ r) × (q ≢ r)
third p q = elim (cases_eq p 0) [
  | inl e ↦ elim (cases_eq q 1) [ inl f ↦ (2, omega arith, λ z. omega arith, λ z. omega arith) | inr ne ↦ (1, omega arith, λ z. omega arith, ne) ]
  | inr np ↦ elim (cases_eq q 0) [
    | inl e ↦ elim (cases_eq p 1) [ inl f ↦ (2, omega arith, λ z. omega arith, λ z. omega arith) | inr ne ↦ (1, omega arith, ne, λ z. omega arith) ]
    | inr nq ↦ (0, omega arith, np, nq)
  ]
]

-- three or more processes have at most a team for each operation
pub few_teams : (t : TypeTable) (sight : Sight) (n : ℕ) (sizes : List ℕ) → HasSizes t sight sizes → IsDivision n sizes → 3 ≤ n → length sizes ≤ length t.operations
few_teams t sight n sizes has division three = elim (cases_lt (length t.operations) (length sizes)) [
  | inl more ↦ absurd (clash (two_alike (length t.operations) (length sizes) (λ g. has.meeting.operation (start_of sizes g + 0)) (λ g lg. has.operations (start_of sizes g + 0) (first g lg).1) more))
  | inr le ↦ le
]
  where
    first : (g : ℕ) → g < length sizes → (block sizes (start_of sizes g + 0) ≡ g) × (start_of sizes g + 0 < sum sizes)
    first g lg = placed sizes g 0 (division.inhabited g 0 lg)

    member : (p : ℕ) → p < sum sizes → Has (λ p. nat_lt p (sum sizes)) p
    member p lp = grind (arith, nat_tests)

    clash : Alike (λ g. has.meeting.operation (start_of sizes g + 0)) (length sizes) → ⊥
    clash a =
        let l = a.apart in let k = a.known in let w = division.whole in
        let x = first a.i (omega arith) in let y = first a.j k in
        let r = third (start_of sizes a.i + 0) (start_of sizes a.j + 0) in
        let small = r.1 in
        let e = one_operation t has.meeting (λ p. nat_lt p (sum sizes)) (block sizes) (start_of sizes a.i + 0) (start_of sizes a.j + 0) r.0 has.witness (member (start_of sizes a.i + 0) x.1) (member (start_of sizes a.j + 0) y.1)
        (member r.0 (omega arith)) r.2 r.3 a.same in
        let same : a.i ≡ a.j = sym x.0 ∙ (e ∙ y.0) in
        omega arith

-- ---- few teams need many levels
at_most_sum : (c : ℕ) (sizes : List ℕ) → All (λ m. m ≤ c) sizes → sum sizes ≤ length sizes * c
at_most_sum c [] each = omega arith
at_most_sum c (m ∷ sizes) each =
    let h : m ≤ c = All-head (λ q. q ≤ c) m sizes each in
    let r = at_most_sum c sizes (All-tail (λ q. q ≤ c) m sizes each) in
    omega (arith, sum_cons m sizes, suc-mul (length sizes) c)

-- a witness of a type with two or more operations has at most a team for each
pub few_at : (t : TypeTable) (sight : Sight) (n : ℕ) (sizes : List ℕ) → 2 ≤ length t.operations → HasSizes t sight sizes → IsDivision n sizes → length sizes ≤ length t.operations
few_at t sight n sizes two has division = elim (cases_lt n 3) [
  | inl small ↦ (let w = division.whole in let l = long_sum sizes division.inhabited in omega arith)
  | inr three ↦ few_teams t sight n sizes has division three
]

module _ (t : TypeTable) (allowed : Sight → Bool) (two : 2 ≤ length t.operations) where
  abbrev pub most_after : ℕ → ℕ
  most_after h = power (length t.operations) h

  one_or_more : (h : ℕ) → 1 ≤ most_after h
  one_or_more zero = omega arith
  one_or_more (suc h) = let i = one_or_more h in let m : 1 * most_after h ≤ length t.operations * most_after h = mul-le-mul_right (most_after h) (omega arith) in omega arith

  -- within so few steps no team below has more processes
  pub sizes_within : (o : Outline) (h : ℕ) → AreGroups t allowed o → steps_in o < 3 * (h + 1) → All (λ m. m ≤ most_after h) (sizes_in o)
  sizes_within End h are lt = All-nil (λ m. m ≤ most_after h)
  sizes_within (One r) h are lt = All-cons (λ m. m ≤ most_after h) 1 (sizes_in r) (one_or_more h) (sizes_within r h are lt)
  sizes_within (Group k s r) zero are lt = absurd (let f = (price_few k).0 in omega arith)
  sizes_within (Group k s r) (suc h) are lt =
      let f = (price_few k).0 in
      let inner = sizes_within s h are.3 (omega arith) in
      let a = at_most_sum (most_after h) (sizes_in s) inner in
      let b : length (sizes_in s) * most_after h ≤ length t.operations * most_after h = mul-le-mul_right (most_after h) (few_at t k (members_in s) (sizes_in s) two are.1 are.2) in
      All-cons (λ m. m ≤ most_after (suc h)) (members_in s) (sizes_in r) (omega (arith, members_sum s)) (sizes_within r (suc h) are.4 (omega arith))

  pub least_steps : (n h : ℕ) (T : PlanTree) → 2 ≤ n → IsTreeFor t allowed n T → most_after h < n → 3 * (h + 1) ≤ (cost T).steps
  least_steps n h T more tree lt = elim (cases_lt (cost T).steps (3 * (h + 1))) [
    | inl few ↦ absurd (let g = group_of_tree t allowed n T more tree in
        let s = g.4 in
        let all = sizes_within (Group g.0 g.1 End) h g.2 (omega arith) in
        let m : members_in g.1 ≤ most_after h = All-head (λ m. m ≤ most_after h) (members_in g.1) [] all in
        let e = g.3 in omega arith)
    | inr ge ↦ ge
  ]
