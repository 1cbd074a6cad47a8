-- Loads of teams and of roots.
use Rattle.std.proofs.Common.{ℕ, zero, suc, ◌≡◌, ◌+◌, ◌-◌, ◌*◌, ◌<◌, ◌≤◌, List, [], ◌∷◌, ◌++◌, length, replicate, refl, sym, ap, ◌∙◌, subst, arith, Option, Some, None}
use Rattle.std.specs.Prelude.{All, slice_index, sum}
use Rattle.std.proofs.lemmas.List.Elements.{All-head, All-tail}
use Rattle.cn_tree_costs.specs.Least as least
use Rattle.cn_tree_costs.specs.Least.{IsAtMost, LoadTable, Root, load_of_root, load_of_teams, plus}
use Rattle.cn_tree_costs.specs.Sizes.{IsDivision, price}
use Rattle.cn_tree_costs.proofs.Loads.{nodes_or, plus_some, sum_or}
use Rattle.cn_tree_costs.proofs.Numbers.{fewer_each, price_few, sum_cons}
use Rattle.cn_shortest.specs.Loads.{IsBelow, IsSmallTable, load_of}
use Rattle.cn_shortest.specs.Sizes.{AreOf, sizes_from, sizes_of}
use Rattle.cn_shortest.specs.declared.loads.Load.{Load}

pub plus_below : (a b c d : ℕ) (x y r : Option Load) → load_of r ≡ plus (load_of x) (load_of y) → IsBelow a b x → IsBelow c d y → IsBelow (a + c) (b + d) r
plus_below a b c d x y None e p q = tt
plus_below a b c d None y (Some r) e p q = absurd cc
plus_below a b c d (Some x) None (Some r) e p q = absurd cc
plus_below a b c d (Some x) (Some y) (Some r) e p q =
    let n : r.nodes ≡ x.nodes + y.nodes = ap nodes_or e in
    let s : r.sum ≡ x.sum + y.sum = ap sum_or e in
    let p0 = p.0 in let p1 = p.1 in let q0 = q.0 in let q1 = q.1 in
    (omega (arith, n, p0, q0), omega (arith, s, p1, q1))

pub below_more : (a b c d : ℕ) (x : Option Load) → a ≤ c → b ≤ d → IsBelow a b x → IsBelow c d x
below_more a b c d None l m h = tt
below_more a b c d (Some x) l m h = let h0 = h.0 in let h1 = h.1 in (omega (arith, l, h0), omega (arith, m, h1))

pub team_below : (n : ℕ) (team : Option Load) → n ≤ 8 → ((x : least.Load) → load_of team ≡ Some x → (x.nodes + 1 ≤ n) × (x.sum ≤ 32 * x.nodes)) → IsBelow 7 224 team
team_below n None l small = tt
team_below n (Some x) l small = let h = small _ refl in let h0 = h.0 in let h1 = h.1 in (omega (arith, l, h0), omega (arith, l, h0, h1))

-- teams have fewer objects than processes
pub few_nodes : (best : LoadTable) (b : ℕ) (sizes : List ℕ) (x : least.Load) → IsSmallTable best → All (λ m. 1 ≤ m) sizes → load_of_teams best b sizes ≡ Some x → (x.nodes + length sizes ≤ sum sizes) × (x.sum ≤ 32 * x.nodes)
few_nodes best b [] x small some e =
    let n : 0 ≡ x.nodes = ap nodes_or e in let s : 0 ≡ x.sum = ap sum_or e in (omega (arith, n), omega (arith, s))
few_nodes best b (m ∷ sizes) x small some e =
    let p = plus_some (best m b) (load_of_teams best b sizes) x e in
    let one : 1 ≤ m = All-head (λ q. 1 ≤ q) m sizes some in
    let h = small m b p.x one p.first in
    let r = few_nodes best b sizes p.y small (All-tail (λ q. 1 ≤ q) m sizes some) p.rest in
    let h0 = h.0 in let h1 = h.1 in let r0 = r.0 in let r1 = r.1 in let pn = p.nodes_are in let ps = p.sum_is in
    (omega (arith, h0, r0, pn, sum_cons m sizes), omega (arith, h1, r1, pn, ps))

-- a root has fewer objects than processes
pub root_small : (best : LoadTable) (n b : ℕ) (root : Root) (x : least.Load) → n ≤ 8 → IsSmallTable best → IsDivision n root.sizes → load_of_root best n b root ≡ Some x → (x.nodes + 1 ≤ n) × (x.sum ≤ 32 * x.nodes)
root_small best n b root x few small division e =
    let k = root.sight in
    let first : least.Load = record { nodes = 1; sum = n * price k } in
    let p = plus_some (Some first) (load_of_teams best (b - price k) root.sizes) x e in
    let r = few_nodes best (b - price k) root.sizes p.y small division.inhabited p.rest in
    let one : 1 ≡ p.x.nodes = ap nodes_or p.first in
    let cost : n * price k ≡ p.x.sum = ap sum_or p.first in
    let h : n * price k ≤ 32 = price_times n (price k) few (price_few k).1 in
    let r0 = r.0 in let r1 = r.1 in let pn = p.nodes_are in let ps = p.sum_is in let w = division.whole in let s = division.several in
    (omega (arith, one, r0, pn, w, s), omega (arith, one, cost, h, r1, pn, ps))
  where
    price_times : (n p : ℕ) → n ≤ 8 → p ≤ 4 → n * p ≤ 32
    price_times n p l m = nine n l
      where
        nine : (n : ℕ) → n ≤ 8 → n * p ≤ 32
        nine zero l = omega (arith, m)
        nine (suc zero) l = omega (arith, m)
        nine (suc (suc zero)) l = omega (arith, m)
        nine (suc (suc (suc zero))) l = omega (arith, m)
        nine (suc (suc (suc (suc zero)))) l = omega (arith, m)
        nine (suc (suc (suc (suc (suc zero))))) l = omega (arith, m)
        nine (suc (suc (suc (suc (suc (suc zero)))))) l = omega (arith, m)
        nine (suc (suc (suc (suc (suc (suc (suc zero))))))) l = omega (arith, m)
        nine (suc (suc (suc (suc (suc (suc (suc (suc zero)))))))) l = omega (arith, m)
        nine (suc (suc (suc (suc (suc (suc (suc (suc (suc n))))))))) l = absurd (omega (arith, l))

-- the same loads for fewer processes
pub same_teams : (f g : LoadTable) (k b : ℕ) (sizes : List ℕ) → ((m c : ℕ) → 1 ≤ m → m < k → f m c ≡ g m c) → All (λ m. (1 ≤ m) × (m < k)) sizes → load_of_teams f b sizes ≡ load_of_teams g b sizes
same_teams f g k b [] same all = refl
same_teams f g k b (m ∷ sizes) same all =
    let h = All-head (λ q. (1 ≤ q) × (q < k)) m sizes all in
    let e = same m b h.0 h.1 in
    let r = same_teams f g k b sizes same (All-tail (λ q. (1 ≤ q) × (q < k)) m sizes all) in
    rw (e, r) refl

pub same_root : (f g : LoadTable) (n b : ℕ) (root : Root) → ((m c : ℕ) → 1 ≤ m → m < n → f m c ≡ g m c) → IsDivision n root.sizes → load_of_root f n b root ≡ load_of_root g n b root
same_root f g n b root same division =
    ap (plus (Some (record { nodes = 1; sum = n * price root.sight }))) (same_teams f g n (b - price root.sight) root.sizes same (fewer_each n root.sizes division))

-- the greatest sizes do not stand there
pub shrink : (counts : List ℕ) (k d : ℕ) → All (λ m. (1 ≤ m) × (m < k + 1)) (sizes_from counts (d + k)) → sizes_from counts (d + k) ≡ sizes_from counts k
shrink counts k zero all = let e : zero + k ≡ k = omega arith in ap (sizes_from counts) e
shrink counts k (suc d) all =
    let e : suc d + k ≡ suc (d + k) = omega arith in
    ap (sizes_from counts) e ∙ none (shrink counts k d) (slice_index counts (suc (d + k))) (subst (λ j. All (λ m. (1 ≤ m) × (m < k + 1)) (sizes_from counts j)) e all)
  where
    none : (All (λ m. (1 ≤ m) × (m < k + 1)) (sizes_from counts (d + k)) → sizes_from counts (d + k) ≡ sizes_from counts k) → (c : ℕ) → All (λ m. (1 ≤ m) × (m < k + 1)) (replicate c (suc (d + k)) ++ sizes_from counts (d + k)) → replicate c (suc (d + k)) ++ sizes_from counts (d + k) ≡ sizes_from counts k
    none rest zero all = rest all
    none rest (suc c) all = let h = All-head (λ m. (1 ≤ m) × (m < k + 1)) (suc (d + k)) (replicate c (suc (d + k)) ++ sizes_from counts (d + k)) all in let l = h.1 in absurd (omega (arith, l))

pub short_sizes : (counts : List ℕ) (k : ℕ) → k < 8 → AreOf (k + 1) counts → sizes_of counts ≡ sizes_from counts k
short_sizes counts k l are =
    let e : 8 ≡ 8 - k + k = omega (arith, l) in
    ap (sizes_from counts) e ∙ shrink counts k (8 - k) (subst (λ j. All (λ m. (1 ≤ m) × (m < k + 1)) (sizes_from counts j)) e (fewer_each (k + 1) (sizes_of counts) are.division))
