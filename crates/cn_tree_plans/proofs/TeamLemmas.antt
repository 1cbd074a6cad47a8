-- Teams, their nodes and the levels below.
use Rattle.std.proofs.Common.{ℕ, zero, suc, ◌≡◌, ◌+◌, ◌-◌, ◌<◌, ◌≤◌, Bool, true, false, length, refl, arith, nat_lt, if◌then◌else◌}
use Rattle.std.proofs.lemmas.Bool.Decides.{nat_tests}
use Rattle.cn_trees.specs.Tree.{Teams, levels, members, nodes_in}
use Rattle.cn_trees.specs.Tree.Teams.{Alone, Last, Meet}
use Rattle.cn_tree_costs.specs.Nodes.{Node, behind, node_at, node_below}
use Rattle.cn_tree_costs.specs.Sizes.{sizes_of}
use Rattle.cn_tree_plans.specs.Teams.{AreProper, AreSeveralBelow}

-- nodes and teams are fewer than processes
pub several_bound : (s : Teams) → AreSeveralBelow s → nodes_in s + length (sizes_of s) ≤ members s
several_bound Last h = omega arith
several_bound (Alone r) h = let i = several_bound r h in omega arith
several_bound (Meet s r) h =
    let i = several_bound s h.1 in let j = several_bound r h.2 in let k = h.0 in omega arith

pub levels-nodes : (s : Teams) → levels s ≤ 1 + nodes_in s
levels-nodes Last = omega arith
levels-nodes (Alone r) = let i = levels-nodes r in omega arith
levels-nodes (Meet s r) = let i = levels-nodes s in let j = levels-nodes r in omega arith

-- the nodes below the first teams, and those below the further ones
pub below_first : (s r : Teams) (v : ℕ) → v ≡ 0
    → node_below (Meet s r) v ≡ record { first = 0; teams = s }
below_first s r zero e = refl
below_first s r (suc v) e = absurd (omega arith)

pub below_inside : (s r : Teams) (v : ℕ) → 1 ≤ v → v - 1 < nodes_in s
    → node_below (Meet s r) v ≡ node_below s (v - 1)
below_inside s r zero l lt = absurd (omega arith)
below_inside s r (suc v) l lt =
    let e : suc v - 1 ≡ v = omega arith in
    let test : nat_lt v (nodes_in s) ≡ true = grind (arith, nat_tests) in
    rw (e, test) refl

pub below_beside : (s r : Teams) (v : ℕ) → 1 ≤ v → nodes_in s ≤ v - 1
    → node_below (Meet s r) v ≡ behind (members s) (node_below r (v - 1 - nodes_in s))
below_beside s r zero l le = absurd (omega arith)
below_beside s r (suc v) l le =
    let e : suc v - 1 ≡ v = omega arith in
    let test : nat_lt v (nodes_in s) ≡ false = grind (arith, nat_tests) in
    rw (e, test) refl

-- what holds of the nodes of a tree
meet_nodes : (P : ℕ → Node → Type 0) (s r : Teams) → P zero (record { first = 0; teams = s }) → ((v : ℕ) → v < nodes_in s → P (suc v) (node_below s v))
    → ((v : ℕ) → nodes_in s ≤ v → P (suc v) (behind (members s) (node_below r (v - nodes_in s)))) → (v : ℕ) → P v (node_below (Meet s r) v)
meet_nodes P s r here first further zero = here
meet_nodes P s r here first further (suc v) = go (nat_lt v (nodes_in s)) refl
  where
    go : (b : Bool) → nat_lt v (nodes_in s) ≡ b → P (suc v) (if b then node_below s v else behind (members s) (node_below r (v - nodes_in s)))
    go true e = first v (grind (arith, nat_tests))
    go false e = further v (grind (arith, nat_tests))

pub within_below : (s : Teams) (v : ℕ) → (node_below s v).first + members (node_below s v).teams ≤ members s
within_below Last v = omega arith
within_below (Alone r) v = let i = within_below r v in omega arith
within_below (Meet s r) v =
    meet_nodes (λ v x. x.first + members x.teams ≤ members s + members r) s r (omega arith)
    (λ v l. let i = within_below s v in omega arith) (λ v l. let i = within_below r (v - nodes_in s) in omega arith) v

pub within : (s : Teams) (v : ℕ) → (node_at s v).first + members (node_at s v).teams ≤ members s
within s zero = omega arith
within s (suc v) = within_below s v

proper_below : (s : Teams) (v : ℕ) → AreSeveralBelow s → v < nodes_in s → AreProper (node_below s v).teams
proper_below Last v h l = absurd (omega arith)
proper_below (Alone r) v h l = proper_below r v h l
proper_below (Meet s r) v h l =
    meet_nodes (λ v x. v < 1 + nodes_in s + nodes_in r → AreProper x.teams) s r
    (λ l. record { several = h.0; below = h.1 }) (λ v i l. proper_below s v h.1 i)
    (λ v i l. proper_below r (v - nodes_in s) h.2 (omega arith)) v l

pub proper_at : (s : Teams) (v : ℕ) → AreProper s → v < 1 + nodes_in s → AreProper (node_at s v).teams
proper_at s zero h l = h
proper_at s (suc v) h l = proper_below s v h.below (omega arith)
