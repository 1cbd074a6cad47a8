-- From outlines back to trees.
use Rattle.std.proofs.Common.{ℕ, zero, suc, ◌≡◌, Bool, true, false, ◌+◌, ◌-◌, ◌*◌, ◌<◌, ◌≤◌, max, List, [], ◌∷◌, refl, ap, ◌∙◌, arith, nat_lt, if◌then◌else◌}
use Rattle.std.specs.Prelude.{sum}
use Rattle.std.proofs.lemmas.Bool.Decides.{nat_tests}
use Rattle.cn_table.specs.TypeTable.{TypeTable}
use Rattle.cn_meetings.specs.Meeting.{Sight}
use Rattle.cn_meetings.proofs.Witnesses.{fewer_processes}
use Rattle.cn_trees.specs.Consensus.{steps_of}
use Rattle.cn_trees.specs.Tree.{PlanTree, Teams, members, nodes_in, processes_of}
use Rattle.cn_trees.specs.Tree.Teams.{Alone, Last, Meet}
use Rattle.cn_tree_costs.specs.Cost.{Cost, IsTreeFor, cost, total}
use Rattle.cn_tree_costs.specs.Nodes.{node_at, node_below}
use Rattle.cn_tree_costs.specs.Outline.{AreGroups, Outline, groups_in, members_in, sizes_in, steps_in, sum_in}
use Rattle.cn_tree_costs.specs.Outline.Outline.{End, Group, One}
use Rattle.cn_tree_costs.specs.Sizes.{HasSizes, block, price, sizes_of}
use Rattle.cn_tree_costs.proofs.Numbers.{greatest_from, greatest_within, total_first, total_plus, total_same, two_or_more}
use Rattle.cn_tree_costs.proofs.Steps.{steps_are, total_under, under, under_first, under_later}
use Rattle.cn_tree_costs.proofs.Witnesses.{same_teams, tree_alike, tree_of, tree_of_type, tree_witnesses}

abbrev pub teams_of : Outline → Teams
teams_of End = Last
teams_of (One r) = Alone (teams_of r)
teams_of (Group k s r) = Meet (teams_of s) (teams_of r)

pub teams_members : (s : Outline) → members (teams_of s) ≡ members_in s
teams_members End = refl
teams_members (One r) = omega (arith, teams_members r)
teams_members (Group k s r) = omega (arith, teams_members s, teams_members r)

teams_sizes : (s : Outline) → sizes_of (teams_of s) ≡ sizes_in s
teams_sizes End = refl
teams_sizes (One r) = ap (λ (x : List ℕ). 1 ∷ x) (teams_sizes r)
teams_sizes (Group k s r) = rw (teams_members s) (ap (λ (x : List ℕ). members_in s ∷ x) (teams_sizes r))

teams_nodes : (s : Outline) → nodes_in (teams_of s) ≡ groups_in s
teams_nodes End = refl
teams_nodes (One r) = teams_nodes r
teams_nodes (Group k s r) = omega (arith, teams_nodes s, teams_nodes r)

-- how the processes of node v below look; any way if there is no such node
abbrev sight_below : Sight → Outline → ℕ → Sight
sight_below d End v = d
sight_below d (One r) v = sight_below d r v
sight_below d (Group k s r) zero = k
sight_below d (Group k s r) (suc v) = if nat_lt v (nodes_in (teams_of s)) then sight_below d s v else sight_below d r (v - nodes_in (teams_of s))

-- no teams
nobody : (t : TypeTable) (d : Sight) (sizes : List ℕ) → HasSizes t d sizes → HasSizes t d []
nobody t d sizes has = record {
  meeting = has.meeting;
  start = has.start;
  operations = λ p lt. absurd (omega arith);
  sights = λ p lt. absurd (omega arith);
  known = has.known;
  witness = same_teams t has.meeting (λ p. nat_lt p (sum [])) (block sizes) (block []) (λ p h. absurd (let l : p < 0 = grind (arith, nat_tests) in omega arith))
      (fewer_processes t has.meeting (λ p. nat_lt p (sum [])) (λ p. nat_lt p (sum sizes)) (block sizes) (λ p h. absurd (let l : p < 0 = grind (arith, nat_tests) in omega arith)) has.witness);
}

given_below : (t : TypeTable) (allowed : Sight → Bool) (d : Sight) → HasSizes t d [] → (s : Outline) → AreGroups t allowed s → (v : ℕ) → HasSizes t (sight_below d s v) (sizes_of (node_below (teams_of s) v).teams)
given_below t allowed d none End proper v = none
given_below t allowed d none (One r) proper v = given_below t allowed d none r proper v
given_below t allowed d none (Group k s r) proper zero = rw (teams_sizes s) proper.1
given_below t allowed d none (Group k s r) proper (suc v) =
    go (nat_lt v (nodes_in (teams_of s))) (given_below t allowed d none s proper.3 v) (given_below t allowed d none r proper.4 (v - nodes_in (teams_of s)))
  where
    go : (b : Bool) → HasSizes t (sight_below d s v) (sizes_of (node_below (teams_of s) v).teams) → HasSizes t (sight_below d r (v - nodes_in (teams_of s))) (sizes_of (node_below (teams_of r) (v - nodes_in (teams_of s))).teams)
        → HasSizes t (if b then sight_below d s v else sight_below d r (v - nodes_in (teams_of s)))
        (sizes_of (if b then node_below (teams_of s) v else record { first = members (teams_of s) + (node_below (teams_of r) (v - nodes_in (teams_of s))).first; teams = (node_below (teams_of r) (v - nodes_in (teams_of s))).teams }).teams)
    go true x y = x
    go false x y = y

allowed_below : (t : TypeTable) (allowed : Sight → Bool) (d : Sight) → allowed d ≡ true → (s : Outline) → AreGroups t allowed s → (v : ℕ) → allowed (sight_below d s v) ≡ true
allowed_below t allowed d is End proper v = is
allowed_below t allowed d is (One r) proper v = allowed_below t allowed d is r proper v
allowed_below t allowed d is (Group k s r) proper zero = proper.0
allowed_below t allowed d is (Group k s r) proper (suc v) =
    go (nat_lt v (nodes_in (teams_of s))) (allowed_below t allowed d is s proper.3 v) (allowed_below t allowed d is r proper.4 (v - nodes_in (teams_of s)))
  where
    go : (b : Bool) → allowed (sight_below d s v) ≡ true → allowed (sight_below d r (v - nodes_in (teams_of s))) ≡ true → allowed (if b then sight_below d s v else sight_below d r (v - nodes_in (teams_of s))) ≡ true
    go true x y = x
    go false x y = y

-- ---- steps below
abbrev Priced : Sight → (ℕ → ℕ) → Outline → ℕ → Type 0
Priced d prices s next = (v : ℕ) → v < nodes_in (teams_of s) → prices (next + v) ≡ price (sight_below d s v)

priced_first : (d : Sight) (prices : ℕ → ℕ) (k : Sight) (s r : Outline) (next : ℕ) → Priced d prices (Group k s r) next → Priced d prices s (next + 1)
priced_first d prices k s r next priced v lv =
    let e : next + 1 + v ≡ next + suc v = omega arith in
    let lt : nat_lt v (nodes_in (teams_of s)) ≡ true = grind (arith, nat_tests) in
    ap prices e ∙ (priced (suc v) (omega arith) ∙ rw lt refl)

priced_later : (d : Sight) (prices : ℕ → ℕ) (k : Sight) (s r : Outline) (next : ℕ) → Priced d prices (Group k s r) next → Priced d prices r (next + 1 + nodes_in (teams_of s))
priced_later d prices k s r next priced v lv =
    let n : ℕ = nodes_in (teams_of s) in
    let e : next + 1 + nodes_in (teams_of s) + v ≡ next + suc (nodes_in (teams_of s) + v) = omega arith in
    let lt : nat_lt (nodes_in (teams_of s) + v) (nodes_in (teams_of s)) ≡ false = grind (arith, nat_tests) in
    let same : nodes_in (teams_of s) + v - nodes_in (teams_of s) ≡ v = omega arith in
    ap prices e ∙ (priced (suc (nodes_in (teams_of s) + v)) (omega arith) ∙ rw (lt, same) refl)

priced_here : (d : Sight) (prices : ℕ → ℕ) (k : Sight) (s r : Outline) (next : ℕ) → Priced d prices (Group k s r) next → prices next ≡ price k
priced_here d prices k s r next priced = let e : next + zero ≡ next = omega arith in rw e at (priced zero (omega arith))

under_steps : (d : Sight) (prices : ℕ → ℕ) (s : Outline) (next : ℕ) → Priced d prices s next → (p : ℕ) → under prices (teams_of s) next p ≤ steps_in s
under_steps d prices End next priced p = omega arith
under_steps d prices (One r) next priced zero = omega arith
under_steps d prices (One r) next priced (suc p) = under_steps d prices r next priced p
under_steps d prices (Group k s r) next priced p =
    go (nat_lt p (members (teams_of s))) (under_steps d prices s (next + 1) (priced_first d prices k s r next priced) p)
    (under_steps d prices r (next + 1 + nodes_in (teams_of s)) (priced_later d prices k s r next priced) (p - members (teams_of s)))
  where
    go : (b : Bool) → under prices (teams_of s) (next + 1) p ≤ steps_in s → under prices (teams_of r) (next + 1 + nodes_in (teams_of s)) (p - members (teams_of s)) ≤ steps_in r
        → (if b then under prices (teams_of s) (next + 1) p + prices next else under prices (teams_of r) (next + 1 + nodes_in (teams_of s)) (p - members (teams_of s))) ≤ max (steps_in s + price k) (steps_in r)
    go true x y = omega (arith, priced_here d prices k s r next priced)
    go false x y = omega arith

total_sum : (d : Sight) (prices : ℕ → ℕ) (s : Outline) (next : ℕ) → Priced d prices s next → total (under prices (teams_of s) next) (members (teams_of s)) ≡ sum_in s
total_sum d prices End next priced = refl
total_sum d prices (One r) next priced =
    let e : 1 + members (teams_of r) ≡ suc (members (teams_of r)) = omega arith in
    rw e (omega (arith, total_first (under prices (Alone (teams_of r)) next) (members (teams_of r)), total_sum d prices r next priced))
total_sum d prices (Group k s r) next priced =
    let here : members (teams_of s) * prices next ≡ members_in s * price k = rw (teams_members s, priced_here d prices k s r next priced) refl in
    omega (
      arith,
      total_under prices (teams_of s) (teams_of r) next,
      here,
      total_sum d prices s (next + 1) (priced_first d prices k s r next priced),
      total_sum d prices r (next + 1 + nodes_in (teams_of s)) (priced_later d prices k s r next priced),
    )

-- ---- the tree of a group
pub same_cost : (s v y s' v' y' : ℕ) → s ≡ s' → v ≡ v' → y ≡ y' → ◌≡◌ {A = Cost} (record { steps = s; nodes = v; sum = y }) (record { steps = s'; nodes = v'; sum = y' })
same_cost s v y s' v' y' p q r = rw (p, q, r) refl

pub record Raised (t : TypeTable) (allowed : Sight → Bool) (n b x y : ℕ) : Type 0 where
  pub tree : PlanTree
  pub is : IsTreeFor t allowed n tree
  pub within : (cost tree).steps ≤ b
  pub nodes_are : (cost tree).nodes ≡ x
  pub sum_is : (cost tree).sum ≡ y

module _ (t : TypeTable) (allowed : Sight → Bool) (k : Sight) (s : Outline) (proper : AreGroups t allowed (Group k s End)) where
  abbrev all_sights : ℕ → Sight
  all_sights zero = k
  all_sights (suc v) = sight_below k s v

  all_given : (v : ℕ) → HasSizes t (all_sights v) (sizes_of (node_at (teams_of s) v).teams)
  all_given zero = rw (teams_sizes s) proper.1
  all_given (suc v) = given_below t allowed k (nobody t k (sizes_in s) proper.1) s proper.3 v

  all_allowed : (v : ℕ) → allowed (all_sights v) ≡ true
  all_allowed zero = proper.0
  all_allowed (suc v) = allowed_below t allowed k proper.0 s proper.3 v

  abbrev raised_tree : PlanTree
  raised_tree = tree_of t (teams_of s) all_sights all_given

  abbrev all_prices : ℕ → ℕ
  all_prices v = price (all_sights v)

  priced_all : Priced k all_prices s 1
  priced_all v lv = let e : 1 + v ≡ suc v = omega arith in rw e refl

  steps_raised : (p : ℕ) → p < processes_of raised_tree → steps_of raised_tree p ≡ under all_prices (teams_of s) 1 p + price k
  steps_raised p lp = steps_are raised_tree all_sights (tree_alike t (teams_of s) all_sights all_given) p lp

  pub raised : Raised t allowed (members_in s) (steps_in s + price k) (1 + groups_in s) (sum_in s + members_in s * price k)
  raised = record {
    tree = raised_tree;
    is = record {
      table = refl;
      processes = teams_members s;
      witnesses = tree_witnesses t (teams_of s) all_sights all_given;
      of_type = tree_of_type t (teams_of s) all_sights all_given;
      uniform = λ v. (all_sights v, all_allowed v, tree_alike t (teams_of s) all_sights all_given v);
    };
    within = greatest_within (steps_of raised_tree) (processes_of raised_tree) (steps_in s + price k) (λ p lp. omega (arith, steps_raised p lp, under_steps k all_prices s 1 priced_all p));
    nodes_are = ap (λ (n : ℕ). 1 + n) (teams_nodes s);
    sum_is =
        total_same (steps_of raised_tree) (λ p. under all_prices (teams_of s) 1 p + price k) (processes_of raised_tree) steps_raised
        ∙ (total_plus (under all_prices (teams_of s) 1) (price k) (members (teams_of s))
        ∙ rw (total_sum k all_prices s 1 priced_all, teams_members s) refl);
  }

-- the greatest number of steps is attained
steps_reached : (t : TypeTable) (allowed : Sight → Bool) (d : Sight) (prices : ℕ → ℕ) (s : Outline) (next b : ℕ) → AreGroups t allowed s → Priced d prices s next
    → ((p : ℕ) → p < members (teams_of s) → under prices (teams_of s) next p ≤ b) → steps_in s ≤ b
steps_reached t allowed d prices End next b proper priced bound = omega arith
steps_reached t allowed d prices (One r) next b proper priced bound = steps_reached t allowed d prices r next b proper priced (λ p lt. bound (suc p) (omega arith))
steps_reached t allowed d prices (Group k s r) next b proper priced bound =
    let two = two_or_more (members_in s) (sizes_in s) proper.2 in
    let m = teams_members s in
    let here = priced_here d prices k s r next priced in
    let few : (p : ℕ) → p < members (teams_of s) → under prices (teams_of s) (next + 1) p + price k ≤ b = λ p lt. (let h = bound p (omega arith) in omega (arith, under_first prices (teams_of s) (teams_of r) next p lt)) in
    let paid : price k ≤ b = (let h = few 0 (omega arith) in omega arith) in
    let first = steps_reached t allowed d prices s (next + 1) (b - price k) proper.3 (priced_first d prices k s r next priced) (λ p lt. let h = few p lt in omega arith) in
    let rest = steps_reached t allowed d prices r (next + 1 + nodes_in (teams_of s)) b proper.4 (priced_later d prices k s r next priced)
    (λ p lt. let h = bound (members (teams_of s) + p) (omega arith) in omega (arith, under_later prices (teams_of s) (teams_of r) next p)) in
    omega arith

-- so the tree of a group costs what its outline says
module _ (t : TypeTable) (allowed : Sight → Bool) (k : Sight) (s : Outline) (proper : AreGroups t allowed (Group k s End)) where
  whole_tree : Raised t allowed (members_in s) (steps_in s + price k) (1 + groups_in s) (sum_in s + members_in s * price k)
  whole_tree = raised t allowed k s proper

  exact : (cost whole_tree.tree).steps ≡ steps_in s + price k
  unfolding whole_tree raised
  exact =
      let two = two_or_more (members_in s) (sizes_in s) proper.2 in
      let m = teams_members s in
      let at : (p : ℕ) → p < members (teams_of s) → under (all_prices t allowed k s proper) (teams_of s) 1 p + price k ≤ (cost whole_tree.tree).steps = λ p lt. (
      let g = greatest_from (steps_of whole_tree.tree) (processes_of whole_tree.tree) p lt in omega (arith, steps_raised t allowed k s proper p lt)) in
      let paid : price k ≤ (cost whole_tree.tree).steps = (let h = at 0 (omega arith) in omega arith) in
      let r = steps_reached t allowed k (all_prices t allowed k s proper) s 1 ((cost whole_tree.tree).steps - price k) proper.3 (priced_all t allowed k s proper) (λ p lt. let h = at p lt in omega arith) in
      let w = whole_tree.within in
      omega arith

  pub tree_of_group : (T : PlanTree) × IsTreeFor t allowed (members_in s) T × (cost T ≡ record { steps = steps_in s + price k; nodes = 1 + groups_in s; sum = sum_in s + members_in s * price k })
  tree_of_group = (
    whole_tree.tree,
    whole_tree.is,
    same_cost (cost whole_tree.tree).steps (cost whole_tree.tree).nodes (cost whole_tree.tree).sum (steps_in s + price k) (1 + groups_in s) (sum_in s + members_in s * price k) exact whole_tree.nodes_are whole_tree.sum_is,
  )
