-- Trees than which none costs less.
use Rattle.std.proofs.Common.{ℕ, ◌≡◌, Bool, ◌+◌, ◌*◌, ◌≤◌, List, [], ◌∷◌, length, inl, inr, refl, ap, subst, arith}
use Rattle.std.specs.Prelude.{All}
use Rattle.std.proofs.lemmas.List.Elements.{All-head, All-tail}
use Rattle.std.proofs.Math.Nat.{mul-le-mul_left}
use Rattle.cn_table.specs.TypeTable.{TypeTable}
use Rattle.cn_meetings.specs.Meeting.{Sight}
use Rattle.cn_trees.specs.FullTrees.{power}
use Rattle.cn_trees.specs.Tree.{PlanTree}
use Rattle.cn_tree_costs.specs.Cost.{IsLeastPlan, IsLess, IsTreeFor, cost}
use Rattle.cn_tree_costs.specs.Outline.{Outline, groups_in, members_in, sizes_in, sum_in}
use Rattle.cn_tree_costs.specs.Outline.Outline.{End, Group, One}
use Rattle.cn_tree_costs.specs.Sizes.{IsDivision, price}
use Rattle.cn_tree_costs.proofs.FewTeams.{few_at, least_steps, sizes_within}
use Rattle.cn_tree_costs.proofs.Numbers.{price_few, sum_cons}
use Rattle.cn_tree_costs.proofs.Tables.{group_of_tree}

-- no tree costs less
at_least : (t : TypeTable) (allowed : Sight → Bool) (n : ℕ) (U : PlanTree) → 2 ≤ n → IsTreeFor t allowed n U → (3 ≤ (cost U).steps) × (1 ≤ (cost U).nodes) × (n * 3 ≤ (cost U).sum)
at_least t allowed n U two tree =
    let g = group_of_tree t allowed n U two tree in
    let few = (price_few g.0).0 in
    let s = g.4 in let v = g.5 in
    let y : sum_in g.1 + n * price g.0 ≤ (cost U).sum = subst (λ m. sum_in g.1 + m * price g.0 ≤ (cost U).sum) g.3 g.6 in
    let m : n * 3 ≤ n * price g.0 = mul-le-mul_left n few in
    (omega arith, omega arith, omega arith)

pub one_node : (t : TypeTable) (allowed : Sight → Bool) (n : ℕ) (T : PlanTree) → 2 ≤ n → IsTreeFor t allowed n T → (cost T).steps ≤ 3 → (cost T).nodes ≤ 1 → (cost T).sum ≤ n * 3 → IsLeastPlan t allowed n T
one_node t allowed n T two tree s v y = record { tree = tree; least = λ U other less. go U (at_least t allowed n U two other) less }
  where
    go : (U : PlanTree) → (3 ≤ (cost U).steps) × (1 ≤ (cost U).nodes) × (n * 3 ≤ (cost U).sum) → IsLess (cost U) (cost T) → ⊥
    go U h (inl lt) = let a = h.0 in omega arith
    go U h (inr (e, inl lt)) = let a = h.1 in omega arith
    go U h (inr (e, inr (f, lt))) = let a = h.2 in omega arith

-- ---- four processes in teams of two
two_pairs : (o : Outline) → sizes_in o ≡ 2 ∷ 2 ∷ [] → (2 ≤ groups_in o) × (12 ≤ sum_in o)
two_pairs End e = absurd cc
two_pairs (One r) e = let z : ◌≡◌ {A = ℕ} 1 2 = cc in absurd (omega arith)
two_pairs (Group k s End) e = absurd cc
two_pairs (Group k s (One r)) e = let z : ◌≡◌ {A = ℕ} 1 2 = cc in absurd (omega arith)
two_pairs (Group k s (Group j u r)) e =
    let a : members_in s ≡ 2 = cc in
    let b : members_in u ≡ 2 = cc in
    let x : members_in s * price k ≡ 2 * price k = ap (λ (m : ℕ). m * price k) a in
    let y : members_in u * price j ≡ 2 * price j = ap (λ (m : ℕ). m * price j) b in
    let p = (price_few k).0 in
    let q = (price_few j).0 in
    (omega arith, omega arith)

pairs_of_four : (sizes : List ℕ) → IsDivision 4 sizes → length sizes ≤ 2 → All (λ m. m ≤ 2) sizes → sizes ≡ 2 ∷ 2 ∷ []
pairs_of_four [] division few each = absurd (let l = division.several in omega arith)
pairs_of_four (a ∷ []) division few each = absurd (let l = division.several in omega arith)
pairs_of_four (a ∷ b ∷ c ∷ sizes) division few each = absurd (omega arith)
pairs_of_four (a ∷ b ∷ []) division few each =
    let x : a ≤ 2 = All-head (λ m. m ≤ 2) a (b ∷ []) each in
    let y : b ≤ 2 = All-head (λ m. m ≤ 2) b [] (All-tail (λ m. m ≤ 2) a (b ∷ []) each) in
    let w = division.whole in
    let s : a + b ≡ 4 = omega (arith, sum_cons a (b ∷ []), sum_cons b []) in
    let e : a ≡ 2 = omega arith in
    let f : b ≡ 2 = omega arith in
    rw (e, f) refl

-- a tree of a type with two operations for four processes has three nodes or more than six steps
module _ (t : TypeTable) (allowed : Sight → Bool) (two : length t.operations ≡ 2) (U : PlanTree) (tree : IsTreeFor t allowed 4 U) where
  six : 6 ≤ (cost U).steps
  six = least_steps t allowed (omega arith) 4 1 U (omega arith) tree (rw two (omega arith))

  at_six : (cost U).steps ≤ 6 → (3 ≤ (cost U).nodes) × (24 ≤ (cost U).sum)
  at_six le =
      let g = group_of_tree t allowed 4 U (omega arith) tree in
      let p = (price_few g.0).0 in
      let s = g.4 in let v = g.5 in
      let division : IsDivision 4 (sizes_in g.1) = subst (λ n. IsDivision n (sizes_in g.1)) g.3 g.2.2 in
      let few : length (sizes_in g.1) ≤ 2 = (let f = few_at t g.0 (members_in g.1) (sizes_in g.1) (omega arith) g.2.1 g.2.2 in omega arith) in
      let within : All (λ m. m ≤ power (length t.operations) 1) (sizes_in g.1) = sizes_within t allowed (omega arith) g.1 1 g.2.3 (omega arith) in
      let each : All (λ m. m ≤ 2) (sizes_in g.1) = rw two at within in
      let pairs = two_pairs g.1 (pairs_of_four (sizes_in g.1) division few each) in
      let a = pairs.0 in let b = pairs.1 in
      let y : sum_in g.1 + 4 * price g.0 ≤ (cost U).sum = subst (λ m. sum_in g.1 + m * price g.0 ≤ (cost U).sum) g.3 g.6 in
      (omega arith, omega arith)

pub four_least : (t : TypeTable) (allowed : Sight → Bool) (T : PlanTree) → length t.operations ≡ 2 → IsTreeFor t allowed 4 T → (cost T).steps ≤ 6 → (cost T).nodes ≤ 3 → (cost T).sum ≤ 24 → IsLeastPlan t allowed 4 T
four_least t allowed T two tree s v y = record { tree = tree; least = λ U other less. go U other less }
  where
    go : (U : PlanTree) → IsTreeFor t allowed 4 U → IsLess (cost U) (cost T) → ⊥
    go U other (inl lt) = let a = six t allowed two U other in omega arith
    go U other (inr (e, inl lt)) = let a = (at_six t allowed two U other (omega arith)).0 in omega arith
    go U other (inr (e, inr (f, lt))) = let a = (at_six t allowed two U other (omega arith)).1 in omega arith
