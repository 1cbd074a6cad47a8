-- Teams and the meetings of their nodes, at the load of a search.
use Rattle.std.proofs.Common.{ℕ, ◌≡◌, ◌+◌, ◌-◌, ◌*◌, ◌<◌, ◌≤◌, Bool, true, false, true≢false, List, [], ◌∷◌, ◌++◌, length, append_assoc, refl, sym, ap, ◌∙◌, subst, arith, Option, Some, None, IsSome}
use Rattle.std.specs.Prelude.{All, sum}
use Rattle.std.proofs.lemmas.List.{append-nil}
use Rattle.std.proofs.lemmas.List.Elements.{All-head, All-tail, All-weaker}
use Rattle.cn_table.specs.TypeTable.{TypeTable}
use Rattle.cn_meetings.specs.Meeting.{IsSightOf, Sight}
use Rattle.cn_tree_costs.specs.Least.{Load, LoadTable, load_of_teams, plus}
use Rattle.cn_tree_costs.specs.Sizes.{price}
use Rattle.cn_tree_costs.specs.Sizes as teams
use Rattle.cn_tree_plans.specs.Plan.{NodeMeeting}
use Rattle.cn_tree_plans.proofs.PlanLemmas.{sizes_sum}
use Rattle.cn_trees.specs.Tree.{Teams, members}
use Rattle.cn_trees.specs.Tree.Teams.{Alone, Last, Meet}
use Rattle.cn_shortest.specs.Built.{AddsNode, AddsTeams}
use Rattle.cn_shortest.specs.Examples.{IsExample}
use Rattle.cn_shortest.specs.Loads.{table_of}
use Rattle.cn_shortest.specs.Nodes.{AreNodes, IsNode, price_in, sight_in}
use Rattle.cn_shortest.specs.Searches.{IsRootOf}
use Rattle.cn_meetings.specs.Sights.{sight_of}
use Rattle.cn_shortest.specs.Sizes.{AreOf, sizes_of}
use Rattle.cn_shortest.specs.declared.choosing.Choice.{Choice}
use Rattle.cn_shortest.specs.declared.roots.Roots.{Roots}
use Rattle.cn_shortest.specs.declared.search.Search.{Search}
use Rattle.cn_tree_costs.proofs.Loads.{nodes_or, plus_some, sum_or}
use Rattle.cn_tree_costs.proofs.Numbers.{fewer_each, long_sum}

-- ---- loads that there are
pub load_there : (o : Option Load) → IsSome o → (x : Load) × (o ≡ Some x)
load_there None h = absurd (true≢false (sym h))
load_there (Some x) h = (x, refl)

pub plus_first : (a b : Option Load) → IsSome (plus a b) → IsSome a
plus_first None b h = h
plus_first (Some x) b h = refl

pub plus_rest : (a b : Option Load) → IsSome (plus a b) → IsSome b
plus_rest None b h = absurd (true≢false (sym h))
plus_rest (Some x) None h = h
plus_rest (Some x) (Some y) h = refl

-- ---- teams
module _ (roots : List Roots) (best : LoadTable) (b : ℕ) where
  pub none_built : (x : Load) (old : List NodeMeeting) → load_of_teams best b [] ≡ Some x → AddsTeams roots b [] x Last old old
  none_built x old e = (
    [],
    sym (append-nil old),
    record {
      sizes_are = refl;
      nodes_are = ap nodes_or e;
      are = λ t allowed h. (refl, sym (ap sum_or e));
    },
  )

  pub one_built : (sizes : List ℕ) (x : Load) (r : Teams) (old new : List NodeMeeting) → best 1 b ≡ Some (record { nodes = 0; sum = 0 }) → load_of_teams best b (1 ∷ sizes) ≡ Some x
      → ((y : Load) → load_of_teams best b sizes ≡ Some y → AddsTeams roots b sizes y r old new) → AddsTeams roots b (1 ∷ sizes) x (Alone r) old new
  one_built sizes x r old new none e others =
      let p = plus_some (best 1 b) (load_of_teams best b sizes) x e in
      let rest = others p.y p.rest in
      let no_nodes : 0 ≡ p.x.nodes = ap nodes_or (sym none ∙ p.first) in
      let no_steps : 0 ≡ p.x.sum = ap sum_or (sym none ∙ p.first) in
      let nodes : p.y.nodes ≡ x.nodes = omega (arith, no_nodes, p.nodes_are) in
      let steps : p.y.sum ≡ x.sum = omega (arith, no_steps, p.sum_is) in (
        rest.0,
        rest.1,
        record {
          sizes_are = ap (λ l. 1 ∷ l) rest.2.sizes_are;
          nodes_are = rest.2.nodes_are ∙ nodes;
          are = λ t allowed h. subst (AreNodes t allowed b r rest.0) steps (rest.2.are t allowed h);
        },
      )

  pub some_built : (n : ℕ) (sizes : List ℕ) (x : Load) (s r : Teams) (old mid new : List NodeMeeting) → load_of_teams best b (n ∷ sizes) ≡ Some x
      → ((y : Load) → best n b ≡ Some y → AddsNode roots n b y s old mid) → ((y : Load) → load_of_teams best b sizes ≡ Some y → AddsTeams roots b sizes y r mid new)
      → AddsTeams roots b (n ∷ sizes) x (Meet s r) old new
  some_built n sizes x s r old mid new e first others =
      let p = plus_some (best n b) (load_of_teams best b sizes) x e in
      let one = first p.x p.first in
      let rest = others p.y p.rest in (
        one.0 ++ rest.0,
        rest.1 ∙ (ap (λ l. l ++ rest.0) one.1 ∙ append_assoc old one.0 rest.0),
        record {
          sizes_are = ap (λ k. k ∷ teams.sizes_of r) one.2.count ∙ ap (λ l. n ∷ l) rest.2.sizes_are;
          nodes_are = omega (arith, one.2.nodes_are, rest.2.nodes_are, p.nodes_are);
          are = λ t allowed h.
              let a = one.2.are t allowed h in
              (a.root, a.below, rest.0, a.steps_below, p.y.sum, ap (λ l. l ++ rest.0) a.split, omega (arith, p.sum_is, a.sum_is), a.node, a.within, a.are_below, rest.2.are t allowed h);
        },
      )

  -- by the first size and the others
  module _ (sizes rest : List ℕ) (size : ℕ) (is : sizes ≡ size ∷ rest) where
    parts : (x : Load) → load_of_teams best b sizes ≡ Some x → load_of_teams best b (size ∷ rest) ≡ Some x
    parts x e = subst (λ (l : List ℕ). load_of_teams best b l ≡ Some x) is e

    pub first_there : IsSome (load_of_teams best b sizes) → IsSome (best size b)
    first_there h = plus_first (best size b) (load_of_teams best b rest) (subst (λ (l : List ℕ). IsSome (load_of_teams best b l)) is h)

    pub others_there : IsSome (load_of_teams best b sizes) → IsSome (load_of_teams best b rest)
    others_there h = plus_rest (best size b) (load_of_teams best b rest) (subst (λ (l : List ℕ). IsSome (load_of_teams best b l)) is h)

    pub teams_one : (x : Load) (s r : Teams) (old new : List NodeMeeting) → size ≡ 1 → s ≡ Alone r → best 1 b ≡ Some (record { nodes = 0; sum = 0 }) → load_of_teams best b sizes ≡ Some x
        → ((y : Load) → load_of_teams best b rest ≡ Some y → AddsTeams roots b rest y r old new) → AddsTeams roots b sizes x s old new
    teams_one x s r old new one same none e others =
        let all : sizes ≡ 1 ∷ rest = is ∙ ap (λ (k : ℕ). k ∷ rest) one in
        subst (λ (l : List ℕ). AddsTeams roots b l x s old new) (sym all) (subst (λ (u : Teams). AddsTeams roots b (1 ∷ rest) x u old new) (sym same)
        (one_built rest x r old new none (subst (λ (l : List ℕ). load_of_teams best b l ≡ Some x) all e) others))

    pub teams_some : (x : Load) (s u r : Teams) (old mid new : List NodeMeeting) → s ≡ Meet u r → load_of_teams best b sizes ≡ Some x
        → ((y : Load) → best size b ≡ Some y → AddsNode roots size b y u old mid) → ((y : Load) → load_of_teams best b rest ≡ Some y → AddsTeams roots b rest y r mid new)
        → AddsTeams roots b sizes x s old new
    teams_some x s u r old mid new same e first others =
        subst (λ (l : List ℕ). AddsTeams roots b l x s old new) (sym is) (subst (λ (v : Teams). AddsTeams roots b (size ∷ rest) x v old new) (sym same)
        (some_built size rest x u r old mid new (parts x e) first others))

  pub teams_none : (sizes : List ℕ) (x : Load) (s : Teams) (old : List NodeMeeting) → length sizes ≡ 0 → s ≡ Last → load_of_teams best b sizes ≡ Some x → AddsTeams roots b sizes x s old old
  teams_none [] x s old l same e = subst (λ (u : Teams). AddsTeams roots b [] x u old old) (sym same) (none_built x old e)
  teams_none (m ∷ sizes) x s old l same e = absurd (omega (arith, l))

pub first_size : (P : ℕ → Type 0) (sizes rest : List ℕ) (size : ℕ) → sizes ≡ size ∷ rest → All P sizes → P size
first_size P sizes rest size is all = All-head P size rest (subst (All P) is all)

pub other_sizes : (P : ℕ → Type 0) (sizes rest : List ℕ) (size : ℕ) → sizes ≡ size ∷ rest → All P sizes → All P rest
other_sizes P sizes rest size is all = All-tail P size rest (subst (All P) is all)

-- ---- a node
module _ (s : Search) (n b : ℕ) (choice : Choice) (root : IsRootOf s n b choice) (few : n ≤ 8) where
  abbrev k : Sight
  k = sight_of choice.sight

  abbrev sizes : List ℕ
  sizes = sizes_of choice.sizes.counts

  abbrev below : Option Load
  below = load_of_teams (table_of s.rows.items) (b - price k) sizes

  pub node_sizes : (most : ℕ) → n ≤ most → All (λ m. (1 ≤ m) × (m ≤ most)) sizes
  node_sizes most l = All-weaker (λ m. (1 ≤ m) × (m < n)) (λ m. (1 ≤ m) × (m ≤ most)) (λ m h. (h.0, (let u = h.1 in omega (arith, l)))) sizes (fewer_each n sizes root.of_n.division)

  pub few_sizes : length sizes ≤ 8
  few_sizes = (let l = long_sum sizes root.of_n.division.inhabited in let w = root.of_n.division.whole in omega (arith, few))

  pub below_there : IsSome (table_of s.rows.items n b) → IsSome below
  below_there h = plus_rest (Some (record { nodes = 1; sum = n * price k })) below (subst (λ (o : Option Load). IsSome o) (sym root.load) h)

  pub node_built : (x : Load) (m : NodeMeeting) (u : Teams) (old mid new : List NodeMeeting) → table_of s.rows.items n b ≡ Some x → mid ≡ old ++ m ∷ [] → sight_in m ≡ k
      → ((t : TypeTable) (allowed : Sight → Bool) → allowed k ≡ true → IsSightOf t k → IsExample t k n choice.sizes.counts choice.sizes.example → AreOf n choice.sizes.counts → IsNode t allowed sizes m)
      → ((y : Load) → below ≡ Some y → AddsTeams s.roots.items (b - price k) sizes y u mid new) → AddsNode s.roots.items n b x u old new
  node_built x m u old mid new e is looks node others =
      let first : Load = record { nodes = 1; sum = n * price k } in
      let p = plus_some (Some first) below x (root.load ∙ e) in
      let rest = others p.y p.rest in
      let one : 1 ≡ p.x.nodes = ap nodes_or p.first in
      let cost : n * price k ≡ p.x.sum = ap sum_or p.first in
      let count : members u ≡ n = sym (sizes_sum u) ∙ (ap sum rest.2.sizes_are ∙ root.of_n.division.whole) in
      let paid : price_in m ≡ price k = ap price looks in
      let same : members u * price_in m ≡ n * price k = ap (λ j. j * price_in m) count ∙ ap (λ j. n * j) paid in (
        m ∷ rest.0,
        rest.1 ∙ (ap (λ l. l ++ rest.0) is ∙ append_assoc old (m ∷ []) rest.0),
        record {
          count = count;
          nodes_are = omega (arith, one, p.nodes_are, rest.2.nodes_are);
          are = λ t allowed h. record {
            root = m;
            below = rest.0;
            steps_below = p.y.sum;
            split = refl;
            sum_is = omega (arith, p.sum_is, cost, same);
            node = subst (λ l. IsNode t allowed l m) (sym rest.2.sizes_are) (node t allowed (root.is_allowed t allowed h) (root.of_type t allowed h) (root.example t allowed h) root.of_n);
            within = subst (λ j. j ≤ b) (sym paid) root.paid;
            are_below = subst (λ j. AreNodes t allowed (b - j) u rest.0 p.y.sum) (sym paid) (rest.2.are t allowed h);
          };
        },
      )

  -- the same, by what is equal
  pub node_from : (x : Load) (m : NodeMeeting) (u : Teams) (old mid new : List NodeMeeting) (list : List ℕ) (j : ℕ) → list ≡ sizes → j ≡ price k → table_of s.rows.items n b ≡ Some x → mid ≡ old ++ m ∷ [] → sight_in m ≡ k
      → ((t : TypeTable) (allowed : Sight → Bool) → allowed k ≡ true → IsSightOf t k → IsExample t k n choice.sizes.counts choice.sizes.example → AreOf n choice.sizes.counts → IsNode t allowed sizes m)
      → ((y : Load) → load_of_teams (table_of s.rows.items) (b - j) list ≡ Some y → AddsTeams s.roots.items (b - j) list y u mid new) → AddsNode s.roots.items n b x u old new
  node_from x m u old mid new list j lists prices e is looks node others =
      node_built x m u old mid new e is looks node (λ y f.
      let best = table_of s.rows.items in
      let here = subst (λ (l : List ℕ). load_of_teams best (b - j) l ≡ Some y) (sym lists) (subst (λ (i : ℕ). load_of_teams best (b - i) sizes ≡ Some y) (sym prices) f) in
      subst (λ (i : ℕ). AddsTeams s.roots.items (b - i) sizes y u mid new) prices (subst (λ (l : List ℕ). AddsTeams s.roots.items (b - j) l y u mid new) lists (others y here)))

  pub from_there : (list : List ℕ) (j : ℕ) → list ≡ sizes → j ≡ price k → IsSome (table_of s.rows.items n b) → IsSome (load_of_teams (table_of s.rows.items) (b - j) list)
  from_there list j lists prices h =
      subst (λ (l : List ℕ). IsSome (load_of_teams (table_of s.rows.items) (b - j) l)) (sym lists) (subst (λ (i : ℕ). IsSome (load_of_teams (table_of s.rows.items) (b - i) sizes)) (sym prices) (below_there h))
