-- The nodes of a certificate, pushed one after the other.
use Rattle.std.proofs.Common.{ℕ, zero, suc, ◌≡◌, ◌+◌, ◌-◌, ◌<◌, ◌≤◌, Bool, true, false, List, [], ◌∷◌, ◌++◌, length, refl, ap, arith, map, sym, ◌∙◌, get_or, nat_lt, if◌then◌else◌}
use Rattle.std.specs.Prelude.{take}
use Rattle.std.proofs.lemmas.Bool.Decides.{nat_tests}
use Rattle.std.proofs.lemmas.List.{get_or_append_left, get_or-append_right, map-append, take_more}
use Rattle.cn_trees.specs.Tree.{Teams, members, nodes_in}
use Rattle.cn_trees.specs.Tree.Teams.{Alone, Last, Meet}
use Rattle.cn_tree_costs.specs.Nodes.{behind, node_at, node_below}
use Rattle.cn_tree_costs.specs.Sizes.{sizes_of}
use Rattle.cn_tree_check.proofs.HeadLemmas.{count_below}
use Rattle.cn_tree_check.specs.Sizes.{all_sizes, below_sizes}

-- the sizes of the teams of a node
at_below : (s : Teams) (v : ℕ) → v < nodes_in s → get_or (below_sizes s) v [] ≡ sizes_of (node_below s v).teams
at_below Last v l = absurd (omega arith)
at_below (Alone r) v l = at_below r v l
at_below (Meet s r) zero l = refl
at_below (Meet s r) (suc v) l = go (nat_lt v (nodes_in s)) refl (λ i. at_below s v i) (λ i. at_below r (v - nodes_in s) i)
  where
    go : (b : Bool) → nat_lt v (nodes_in s) ≡ b
        → (v < nodes_in s → get_or (below_sizes s) v [] ≡ sizes_of (node_below s v).teams)
        → (v - nodes_in s < nodes_in r → get_or (below_sizes r) (v - nodes_in s) [] ≡ sizes_of (node_below r (v - nodes_in s)).teams)
        → get_or (below_sizes s ++ below_sizes r) v [] ≡ sizes_of (if b then node_below s v else behind (members s) (node_below r (v - nodes_in s))).teams
    go true e first others =
        let inside : v < nodes_in s = grind (arith, nat_tests) in
        get_or_append_left (below_sizes s) (below_sizes r) [] v (omega (arith, inside, count_below s)) ∙ first inside
    go false e first others =
        let outside : nodes_in s ≤ v = grind (arith, nat_tests) in
        get_or-append_right (below_sizes s) (below_sizes r) (nodes_in s) v [] (count_below s) outside ∙ others (omega (arith, l, outside))

pub sizes_at : (s : Teams) (v : ℕ) → v < 1 + nodes_in s → get_or (all_sizes s) v [] ≡ sizes_of (node_at s v).teams
sizes_at s zero l = refl
sizes_at s (suc v) l = at_below s v (omega arith)

pub count_all : (s : Teams) → length (all_sizes s) ≡ 1 + nodes_in s
count_all s = let count = count_below s in omega arith

-- one more of the first ones
pub one_more : {X Y : Type 0} (f : X → Y) (xs : List X) (ys : List Y) (x : X) (y : Y) (k : ℕ) → k < length ys → map f xs ≡ take k ys → f x ≡ get_or ys k y
    → map f (xs ++ x ∷ []) ≡ take (k + 1) ys
one_more {Y = Y} f xs ys x y k l so_far is =
    map-append f xs (x ∷ []) ∙ (ap (λ (zs : List Y). zs ++ f x ∷ []) so_far ∙ (ap (λ (z : Y). take k ys ++ z ∷ []) is ∙ sym (take_more ys k y l)))
