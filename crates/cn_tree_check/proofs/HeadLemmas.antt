-- Trees and teams at the head of a list of nodes: there is at most one.
use Rattle.std.proofs.Common.{ℕ, ◌≡◌, ◌≢◌, ◌+◌, ◌<◌, ◌≤◌, List, [], ◌∷◌, ◌++◌, length, refl, ap, sym, subst, ◌∙◌, append_assoc, append-nil, arith, length-append}
use Rattle.std.proofs.lemmas.List.{length-map}
use Rattle.cn_choice.specs.declared.limits.TheConstants.{MOST_PROCESSES}
use Rattle.cn_trees.specs.Tree.{Teams, members, nodes_in}
use Rattle.cn_trees.specs.Tree.Teams.{Alone, Last, Meet}
use Rattle.cn_tree_cert.specs.Certificate.{TreeNode}
use Rattle.cn_tree_costs.specs.Sizes.{sizes_of}
use Rattle.cn_tree_plans.specs.Teams.{AreProper, AreSeveralBelow}
use Rattle.cn_tree_plans.proofs.TeamLemmas.{several_bound}
use Rattle.cn_tree_check.specs.Heads.{BeginsBelow, BeginsWithTree}
use Rattle.cn_tree_check.specs.Sizes.{all_sizes, below_sizes, teams_at}

-- a team that has a node is of several processes
several_members : (s : Teams) → AreSeveralBelow s → 2 ≤ length (sizes_of s) → 2 ≤ members s
several_members s below several = let b = several_bound s below in omega arith

-- ---- teams are told by their sizes and by the nodes below

pub record Same (s t : Teams) (u w : List (List ℕ)) : Type 0 where
  pub teams : s ≡ t
  pub behind : u ≡ w

same_below : (s t : Teams) (u w : List (List ℕ)) → AreSeveralBelow s → AreSeveralBelow t → sizes_of s ≡ sizes_of t → below_sizes s ++ u ≡ below_sizes t ++ w → Same s t u w
same_below Last Last u w h k sizes e = record { teams = refl; behind = e }
same_below Last (Alone t) u w h k sizes e = absurd cc
same_below Last (Meet t q) u w h k sizes e = absurd cc
same_below (Alone s) Last u w h k sizes e = absurd cc
same_below (Alone s) (Alone t) u w h k sizes e =
    let tails : sizes_of s ≡ sizes_of t = cc in
    let same = same_below s t u w h k tails e in
    record { teams = ap Alone same.teams; behind = same.behind }
same_below (Alone s) (Meet t q) u w h k sizes e =
    let two = several_members t k.1 k.0 in
    let head : 1 ≡ members t = cc in
    absurd (omega arith)
same_below (Meet s r) Last u w h k sizes e = absurd cc
same_below (Meet s r) (Alone t) u w h k sizes e =
    let two = several_members s h.1 h.0 in
    let head : members s ≡ 1 = cc in
    absurd (omega arith)
same_below (Meet s r) (Meet t q) u w h k sizes e =
    let here : sizes_of s ≡ sizes_of t = cc in
    let behind : (below_sizes s ++ below_sizes r) ++ u ≡ (below_sizes t ++ below_sizes q) ++ w = cc in
    let first = same_below s t (below_sizes r ++ u) (below_sizes q ++ w) h.1 k.1 here
    (sym (append_assoc (below_sizes s) (below_sizes r) u) ∙ (behind ∙ append_assoc (below_sizes t) (below_sizes q) w)) in
    let there : sizes_of r ≡ sizes_of q = cc in
    let second = same_below r q u w h.2 k.2 there first.behind in
    let one : s ≡ t = first.teams in
    let other : r ≡ q = second.teams in
    record { teams = cc; behind = second.behind }

pub same_tree : (s t : Teams) (u w : List (List ℕ)) → AreSeveralBelow s → AreSeveralBelow t → all_sizes s ++ u ≡ all_sizes t ++ w → Same s t u w
same_tree s t u w h k e =
    let here : sizes_of s ≡ sizes_of t = cc in
    let below : below_sizes s ++ u ≡ below_sizes t ++ w = cc in
    same_below s t u w h k here below

-- ---- a tree at the head

pub no_nodes : (size : ℕ) (s : Teams) (behind : List (List ℕ)) → ¬ BeginsWithTree size [] s behind
no_nodes size s behind b = absurd (let e = b.nodes_are in cc)

-- the teams of its root
pub below_root : (size : ℕ) (x : List ℕ) (xs : List (List ℕ)) (s : Teams) (behind : List (List ℕ)) → BeginsWithTree size (x ∷ xs) s behind → BeginsBelow x xs s behind
below_root size x xs s behind b =
    let e : sizes_of s ∷ (below_sizes s ++ behind) ≡ x ∷ xs = b.nodes_are in
    record { several = (b.proper).below; sizes_are = cc; nodes_are = cc }

-- a root has not more teams than processes
pub too_many : (size : ℕ) (x : List ℕ) (xs : List (List ℕ)) → MOST_PROCESSES < length x → (s : Teams) (behind : List (List ℕ)) → ¬ BeginsWithTree size (x ∷ xs) s behind
too_many size x xs many s behind b =
    let few = b.few in
    let bound = several_bound s (b.proper).below in
    let sizes = ap length (below_root size x xs s behind b).sizes_are in
    absurd (omega arith)

pub no_teams : (size : ℕ) (x : List ℕ) (xs : List (List ℕ)) → ((s : Teams) (behind : List (List ℕ)) → members s ≤ MOST_PROCESSES → ¬ BeginsBelow x xs s behind)
    → (s : Teams) (behind : List (List ℕ)) → ¬ BeginsWithTree size (x ∷ xs) s behind
no_teams size x xs none s behind b = none s behind b.few (below_root size x xs s behind b)

abbrev pub AreOfRoot : ℕ → Teams → Type 0
AreOfRoot size s = AreProper s × (members s ≤ MOST_PROCESSES) × (members s ≡ size)

pub no_root : (size : ℕ) (x : List ℕ) (xs : List (List ℕ)) (t : Teams) (left : List (List ℕ)) → BeginsBelow x xs t left → ¬ AreOfRoot size t
    → (s : Teams) (behind : List (List ℕ)) → ¬ BeginsWithTree size (x ∷ xs) s behind
no_root size x xs t left there wrong s behind b =
    let here = below_root size x xs s behind b in
    let same = same_below s t behind left here.several there.several (here.sizes_are ∙ sym there.sizes_are) (here.nodes_are ∙ sym there.nodes_are) in
    wrong (subst (AreOfRoot size) same.teams (b.proper, b.few, b.processes))

pub with_root : (size : ℕ) (x : List ℕ) (xs : List (List ℕ)) (t : Teams) (left : List (List ℕ)) → BeginsBelow x xs t left → AreOfRoot size t → BeginsWithTree size (x ∷ xs) t left
with_root size x xs t left there root =
    let sizes = there.sizes_are in
    let nodes = there.nodes_are in
    record { proper = root.0; few = root.1; processes = root.2; nodes_are = cc }

-- ---- teams at the head

pub no_further : (nodes : List (List ℕ)) → BeginsBelow [] nodes Last nodes
no_further nodes = record { several = tt; sizes_are = refl; nodes_are = refl }

pub one_alone : (sizes : List ℕ) (nodes : List (List ℕ)) (s : Teams) (behind : List (List ℕ)) → BeginsBelow sizes nodes s behind → BeginsBelow (1 ∷ sizes) nodes (Alone s) behind
one_alone sizes nodes s behind b = record { several = b.several; sizes_are = ap (λ (xs : List ℕ). 1 ∷ xs) b.sizes_are; nodes_are = b.nodes_are }

pub none_alone : (sizes : List ℕ) (nodes : List (List ℕ)) → ((s : Teams) (behind : List (List ℕ)) → members s ≤ MOST_PROCESSES → ¬ BeginsBelow sizes nodes s behind)
    → (s : Teams) (behind : List (List ℕ)) → members s ≤ MOST_PROCESSES → ¬ BeginsBelow (1 ∷ sizes) nodes s behind
none_alone sizes nodes none Last behind few b = absurd (let e = b.sizes_are in cc)
none_alone sizes nodes none (Alone r) behind few b =
    let e = b.sizes_are in
    none r behind (omega arith) (record { several = b.several; sizes_are = cc; nodes_are = b.nodes_are })
none_alone sizes nodes none (Meet t r) behind few b =
    let h : AreSeveralBelow (Meet t r) = b.several in
    let two = several_members t h.1 h.0 in
    let e = b.sizes_are in
    let head : members t ≡ 1 = cc in
    absurd (omega arith)

-- a team of several processes, and those behind it
pub record IsTeamBefore (size : ℕ) (sizes : List ℕ) (nodes : List (List ℕ)) (s : Teams) (behind : List (List ℕ)) : Type 0 where
  pub team : Teams
  pub further : Teams
  pub are : s ≡ Meet team further
  pub few : members further ≤ members s
  pub tree : BeginsWithTree size nodes team (below_sizes further ++ behind)
  pub several : AreSeveralBelow further
  pub sizes_are : sizes_of further ≡ sizes

pub team_before : (size : ℕ) (sizes : List ℕ) (nodes : List (List ℕ)) (s : Teams) (behind : List (List ℕ)) → size ≢ 1 → members s ≤ MOST_PROCESSES → BeginsBelow (size ∷ sizes) nodes s behind
    → IsTeamBefore size sizes nodes s behind
team_before size sizes nodes Last behind n few b = absurd (let e = b.sizes_are in cc)
team_before size sizes nodes (Alone r) behind n few b = absurd (n (let e = b.sizes_are in cc))
team_before size sizes nodes (Meet t r) behind n few b =
    let h : AreSeveralBelow (Meet t r) = b.several in
    let e : members t ∷ sizes_of r ≡ size ∷ sizes = b.sizes_are in
    let nodes_are : (sizes_of t ∷ (below_sizes t ++ below_sizes r)) ++ behind ≡ nodes = b.nodes_are in
    record {
      team = t;
      further = r;
      are = refl;
      few = omega arith;
      tree = record {
        proper = record { several = h.0; below = h.1 };
        few = omega arith;
        processes = cc;
        nodes_are = ap (λ (v : List (List ℕ)). sizes_of t ∷ v) (sym (append_assoc (below_sizes t) (below_sizes r) behind)) ∙ nodes_are;
      };
      several = h.2;
      sizes_are = cc;
    }

pub none_tree : (size : ℕ) (sizes : List ℕ) (nodes : List (List ℕ)) → size ≢ 1 → ((s : Teams) (behind : List (List ℕ)) → ¬ BeginsWithTree size nodes s behind)
    → (s : Teams) (behind : List (List ℕ)) → members s ≤ MOST_PROCESSES → ¬ BeginsBelow (size ∷ sizes) nodes s behind
none_tree size sizes nodes n none s behind few b =
    let first = team_before size sizes nodes s behind n few b in
    none first.team (below_sizes first.further ++ behind) first.tree

pub one_team : (size : ℕ) (sizes : List ℕ) (nodes left : List (List ℕ)) (team s : Teams) (behind : List (List ℕ)) → BeginsWithTree size nodes team left → BeginsBelow sizes left s behind
    → BeginsBelow (size ∷ sizes) nodes (Meet team s) behind
one_team size sizes nodes left team s behind first b =
    let size_is = first.processes in
    let sizes_are = b.sizes_are in
    let all : sizes_of team ∷ (below_sizes team ++ (below_sizes s ++ behind)) ≡ nodes =
    ap (λ (v : List (List ℕ)). all_sizes team ++ v) b.nodes_are ∙ first.nodes_are in
    record {
      several = ((first.proper).several, (first.proper).below, b.several);
      sizes_are = cc;
      nodes_are = ap (λ (v : List (List ℕ)). sizes_of team ∷ v) (append_assoc (below_sizes team) (below_sizes s) behind) ∙ all;
    }

pub none_team : (size : ℕ) (sizes : List ℕ) (nodes left : List (List ℕ)) (team : Teams) → size ≢ 1 → BeginsWithTree size nodes team left
    → ((s : Teams) (behind : List (List ℕ)) → members s ≤ MOST_PROCESSES → ¬ BeginsBelow sizes left s behind)
    → (s : Teams) (behind : List (List ℕ)) → members s ≤ MOST_PROCESSES → ¬ BeginsBelow (size ∷ sizes) nodes s behind
none_team size sizes nodes left team n there none s behind few b =
    let first = team_before size sizes nodes s behind n few b in
    let tree = first.tree in
    let same = same_tree first.team team (below_sizes first.further ++ behind) left (tree.proper).below (there.proper).below (tree.nodes_are ∙ sym there.nodes_are) in
    let less = first.few in
    none first.further behind (omega arith) (record { several = first.several; sizes_are = first.sizes_are; nodes_are = same.behind })

-- ---- numbers of nodes

pub behind_fewer : (size : ℕ) (nodes behind : List TreeNode) (s : Teams) → BeginsWithTree size (teams_at nodes) s (teams_at behind) → length behind ≤ length nodes
behind_fewer size nodes behind s b =
    let all = ap length b.nodes_are in
    let parts = length-append (all_sizes s) (teams_at behind) in
    let long = length-map nodes (λ (n : TreeNode). n.teams) in
    let rest = length-map behind (λ (n : TreeNode). n.teams) in
    omega arith

pub count_below : (s : Teams) → length (below_sizes s) ≡ nodes_in s
count_below Last = refl
count_below (Alone r) = count_below r
count_below (Meet s r) =
    let here = length-append (below_sizes s) (below_sizes r) in
    let i = count_below s in
    let j = count_below r in
    omega arith

-- as many nodes as objects
pub as_many : (nodes : List TreeNode) (s : Teams) → all_sizes s ≡ teams_at nodes → length nodes ≡ 1 + nodes_in s
as_many nodes s same =
    let count = count_below s in
    let long = length-map nodes (λ (n : TreeNode). n.teams) in
    let all = ap length same in
    omega arith

-- ---- the tree of a certificate

pub few_nodes : (nodes : List TreeNode) (s : Teams) → AreProper s → members s ≤ MOST_PROCESSES → all_sizes s ≡ teams_at nodes → length nodes < MOST_PROCESSES
few_nodes nodes s proper few same =
    let bound = several_bound s proper.below in
    let several = proper.several in
    let count = as_many nodes s same in
    omega arith

pub whole : (size : ℕ) (nodes : List (List ℕ)) (s : Teams) → AreProper s → members s ≤ MOST_PROCESSES → members s ≡ size → all_sizes s ≡ nodes → BeginsWithTree size nodes s []
whole size nodes s proper few processes same = record { proper = proper; few = few; processes = processes; nodes_are = append-nil (all_sizes s) ∙ same }

-- nothing is behind its nodes
pub nothing_behind : (size : ℕ) (nodes left : List (List ℕ)) (t s : Teams) → BeginsWithTree size nodes t left → AreProper s → all_sizes s ≡ nodes → left ≡ []
nothing_behind size nodes left t s b proper same =
    (same_tree t s left [] (b.proper).below proper.below (b.nodes_are ∙ sym (append-nil (all_sizes s) ∙ same))).behind
