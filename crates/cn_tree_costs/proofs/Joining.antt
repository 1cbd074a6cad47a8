-- Trees joined at a new root.
use Rattle.std.proofs.Common.{ℕ, zero, suc, ◌≡◌, Bool, true, false, ◌+◌, ◌-◌, ◌*◌, ◌<◌, ◌≤◌, List, [], ◌∷◌, map, None, Some, refl, sym, ap, ◌∙◌, subst, arith, nat_lt, if◌then◌else◌, inl, inr}
use Rattle.std.specs.Prelude.{sum}
use Rattle.std.proofs.lemmas.Bool.{cases_lt}
use Rattle.std.proofs.lemmas.Bool.Decides.{nat_tests}
use Rattle.cn_table.specs.TypeTable.{TypeTable}
use Rattle.cn_meetings.specs.Meeting.{Sight}
use Rattle.cn_meetings.specs.Witness.{Has}
use Rattle.cn_meetings.proofs.Witnesses.{fewer_processes}
use Rattle.cn_trees.specs.Consensus.{steps_of}
use Rattle.cn_trees.specs.Tree.{PlanTree, Teams, comes_to, members, nodes_in, processes_of}
use Rattle.cn_trees.specs.Tree.Teams.{Alone, Last, Meet}
use Rattle.cn_tree_costs.specs.Branches.{AreBranches, Branch, all_nodes, all_steps, greatest_steps, joined_cost, size_of}
use Rattle.cn_tree_costs.specs.Cost.{IsTreeFor, cost, greatest, total}
use Rattle.cn_tree_costs.specs.Nodes.{node_at, node_below}
use Rattle.cn_tree_costs.specs.Sizes.{HasSizes, block, price, sizes_of}
use Rattle.cn_tree_costs.proofs.Growing.{same_cost}
use Rattle.cn_tree_costs.proofs.NodesOf.{comes_among}
use Rattle.cn_tree_costs.proofs.Numbers.{greatest_append, greatest_plus, greatest_same, sizes_sum, total_append, total_plus, total_same}
use Rattle.cn_tree_costs.proofs.Outlines.{own_has, own_prices, own_steps}
use Rattle.cn_tree_costs.proofs.Steps.{steps_are, under, under_first, under_later}
use Rattle.cn_tree_costs.proofs.Witnesses.{same_teams, tree_alike, tree_of, tree_of_type, tree_witnesses}

-- ---- a tree from a witness for each node that has processes
module _ (t : TypeTable) (allowed : Sight → Bool) (s : Teams) (sights : ℕ → Sight) (root : HasSizes t (sights 0) (sizes_of s)) (root_allowed : allowed (sights 0) ≡ true)
    (part : (v : ℕ) → 0 < members (node_at s v).teams → (allowed (sights v) ≡ true) × HasSizes t (sights v) (sizes_of (node_at s v).teams)) where
  abbrev pub people : ℕ → ℕ
  people v = members (node_at s v).teams

  -- a node without processes looks as the root does
  abbrev pub filled : ℕ → Sight
  filled v = if nat_lt 0 (people v) then sights v else sights 0

  empty_sizes : (u : Teams) → members u < 1 → HasSizes t (sights 0) (sizes_of u)
  empty_sizes u none = let e = sizes_sum u in record {
    meeting = root.meeting;
    start = root.start;
    operations = λ p lt. absurd (omega arith);
    sights = λ p lt. absurd (omega arith);
    known = root.known;
    witness = same_teams t root.meeting (λ p. nat_lt p (sum (sizes_of u))) (block (sizes_of s)) (block (sizes_of u)) (λ p h. absurd (let l : p < sum (sizes_of u) = grind (arith, nat_tests) in omega arith))
        (fewer_processes t root.meeting (λ p. nat_lt p (sum (sizes_of u))) (λ p. nat_lt p (sum (sizes_of s))) (block (sizes_of s)) (λ p h. absurd (let l : p < sum (sizes_of u) = grind (arith, nat_tests) in omega arith)) root.witness);
  }

  pub filled_has : (v : ℕ) → (allowed (filled v) ≡ true) × HasSizes t (filled v) (sizes_of (node_at s v).teams)
  filled_has v = elim (cases_lt 0 (people v)) [
    | inl some ↦ (let e : nat_lt 0 (people v) ≡ true = grind (arith, nat_tests) in rw e (part v some))
    | inr none ↦ (let e : nat_lt 0 (people v) ≡ false = grind (arith, nat_tests) in rw e (root_allowed, empty_sizes (node_at s v).teams (omega arith)))
  ]

  abbrev pub filled_tree : PlanTree
  filled_tree = tree_of t s filled (λ v. (filled_has v).1)

  pub filled_is : IsTreeFor t allowed (members s) filled_tree
  filled_is = record {
    table = refl;
    processes = refl;
    witnesses = tree_witnesses t s filled (λ v. (filled_has v).1);
    of_type = tree_of_type t s filled (λ v. (filled_has v).1);
    uniform = λ v. (filled v, (filled_has v).0, tree_alike t s filled (λ w. (filled_has w).1) v);
  }

  pub filled_alike : (v p : ℕ) → Has (comes_to s v) p → (filled_tree.meeting v).sight p ≡ sights v
  filled_alike v p h =
      let i = comes_among s v p h in
      let a = i.0 in let b = i.1 in
      let e : nat_lt 0 (people v) ≡ true = (let l : 0 < people v = omega arith in grind (arith, nat_tests)) in
      tree_alike t s filled (λ w. (filled_has w).1) v p h ∙ rw e refl

-- ---- the teams of branches
abbrev pub teams_from : List Branch → Teams
teams_from [] = Last
teams_from (None ∷ branches) = Alone (teams_from branches)
teams_from (Some T ∷ branches) = Meet T.teams (teams_from branches)

from_sizes : (branches : List Branch) → sizes_of (teams_from branches) ≡ map size_of branches
from_sizes [] = refl
from_sizes (None ∷ branches) = ap (λ (x : List ℕ). 1 ∷ x) (from_sizes branches)
from_sizes (Some T ∷ branches) = ap (λ (x : List ℕ). members T.teams ∷ x) (from_sizes branches)

from_nodes : (branches : List Branch) → nodes_in (teams_from branches) ≡ all_nodes branches
from_nodes [] = refl
from_nodes (None ∷ branches) = omega (arith, from_nodes branches)
from_nodes (Some T ∷ branches) = omega (arith, from_nodes branches)

-- prices that agree from two nodes on
pub under_shift : (f g : ℕ → ℕ) (u : Teams) (a b : ℕ) → ((v : ℕ) → v < nodes_in u → f (a + v) ≡ g (b + v)) → (p : ℕ) → under f u a p ≡ under g u b p
under_shift f g Last a b same p = refl
under_shift f g (Alone r) a b same zero = refl
under_shift f g (Alone r) a b same (suc p) = under_shift f g r a b same p
under_shift f g (Meet s r) a b same p =
    go (nat_lt p (members s))
    (under_shift f g s (a + 1) (b + 1) (λ v lv. ap f (add_one a v) ∙ (same (1 + v) (omega arith) ∙ sym (ap g (add_one b v)))) p)
    (let z : a + 0 ≡ a = omega arith in let y : b + 0 ≡ b = omega arith in sym (ap f z) ∙ (same 0 (omega arith) ∙ ap g y))
    (under_shift f g r (a + 1 + nodes_in s) (b + 1 + nodes_in s) (λ v lv. ap f (add_more a v) ∙ (same (1 + nodes_in s + v) (omega arith) ∙ sym (ap g (add_more b v)))) (p - members s))
  where
    add_one : (c v : ℕ) → c + 1 + v ≡ c + (1 + v)
    add_one c v = omega arith

    add_more : (c v : ℕ) → c + 1 + nodes_in s + v ≡ c + (1 + nodes_in s + v)
    add_more c v = omega arith

    go : (inside : Bool) → under f s (a + 1) p ≡ under g s (b + 1) p → f a ≡ g b → under f r (a + 1 + nodes_in s) (p - members s) ≡ under g r (b + 1 + nodes_in s) (p - members s)
        → (if inside then under f s (a + 1) p + f a else under f r (a + 1 + nodes_in s) (p - members s)) ≡ (if inside then under g s (b + 1) p + g b else under g r (b + 1 + nodes_in s) (p - members s))
    go true x y z = omega arith
    go false x y z = z

module _ (t : TypeTable) (allowed : Sight → Bool) (d : Sight) where
  -- how the processes of node v below look
  abbrev sight_from : (branches : List Branch) → AreBranches t allowed branches → ℕ → Sight
  sight_from [] are v = d
  sight_from (None ∷ branches) are v = sight_from branches are v
  sight_from (Some T ∷ branches) are zero = (are.0.uniform 0).0
  sight_from (Some T ∷ branches) are (suc v) = if nat_lt v (nodes_in T.teams) then (are.0.uniform (suc v)).0 else sight_from branches are.1 (v - nodes_in T.teams)

  abbrev IsFound : Sight → Teams → Type 0
  IsFound k u = 0 < members u → (allowed k ≡ true) × HasSizes t k (sizes_of u)

  branch_has : (T : PlanTree) (tree : IsTreeFor t allowed (processes_of T) T) (v : ℕ) → IsFound (tree.uniform v).0 (node_at T.teams v).teams
  branch_has T tree v some = ((tree.uniform v).1, subst (λ x. HasSizes x (tree.uniform v).0 (sizes_of (node_at T.teams v).teams)) tree.table (own_has allowed T tree.witnesses tree.of_type tree.uniform v some))

  found_from : (branches : List Branch) (are : AreBranches t allowed branches) (v : ℕ) → IsFound (sight_from branches are v) (node_below (teams_from branches) v).teams
  found_from [] are v = λ some. absurd (omega arith)
  found_from (None ∷ branches) are v = found_from branches are v
  found_from (Some T ∷ branches) are zero = branch_has T are.0 0
  found_from (Some T ∷ branches) are (suc v) = go (nat_lt v (nodes_in T.teams)) (branch_has T are.0 (suc v)) (found_from branches are.1 (v - nodes_in T.teams))
    where
      go : (b : Bool) → IsFound (are.0.uniform (suc v)).0 (node_below T.teams v).teams → IsFound (sight_from branches are.1 (v - nodes_in T.teams)) (node_below (teams_from branches) (v - nodes_in T.teams)).teams
          → IsFound (if b then (are.0.uniform (suc v)).0 else sight_from branches are.1 (v - nodes_in T.teams))
          (if b then node_below T.teams v else record { first = members T.teams + (node_below (teams_from branches) (v - nodes_in T.teams)).first; teams = (node_below (teams_from branches) (v - nodes_in T.teams)).teams }).teams
      go true x y = x
      go false x y = y

  -- ---- the steps below are those of the branches
  abbrev IsPriced : (branches : List Branch) → AreBranches t allowed branches → (ℕ → ℕ) → ℕ → Type 0
  IsPriced branches are prices next = (v : ℕ) → v < nodes_in (teams_from branches) → prices (next + v) ≡ price (sight_from branches are v)

  abbrev Below : List Branch → (ℕ → ℕ) → ℕ → Type 0
  Below branches prices next = (greatest (under prices (teams_from branches) next) (members (teams_from branches)) ≡ greatest_steps branches) × (total (under prices (teams_from branches) next) (members (teams_from branches)) ≡ all_steps branches)

  branch_steps : (T : PlanTree) (branches : List Branch) (are : AreBranches t allowed (Some T ∷ branches)) (prices : ℕ → ℕ) (next : ℕ) → IsPriced (Some T ∷ branches) are prices next
      → (p : ℕ) → p < members T.teams → under prices (Meet T.teams (teams_from branches)) next p ≡ steps_of T p
  branch_steps T branches are prices next priced p lp =
      let tree = are.0 in
      let own : ℕ → ℕ = own_prices allowed T tree.witnesses tree.of_type tree.uniform in
      let here : prices next ≡ own 0 = (let e : next + zero ≡ next = omega arith in sym (ap prices e) ∙ priced zero (omega arith)) in
      let shift = under_shift prices own T.teams (next + 1) 1 (λ v lv. inner v lv) p in
      omega (arith, under_first prices T.teams (teams_from branches) next p lp, own_steps allowed T tree.witnesses tree.of_type tree.uniform p lp)
    where
      inner : (v : ℕ) → v < nodes_in T.teams → prices (next + 1 + v) ≡ own_prices allowed T are.0.witnesses are.0.of_type are.0.uniform (1 + v)
      inner v lv =
          let e : next + 1 + v ≡ next + suc v = omega arith in
          let f : 1 + v ≡ suc v = omega arith in
          let lt : nat_lt v (nodes_in T.teams) ≡ true = grind (arith, nat_tests) in
          ap prices e ∙ (priced (suc v) (omega arith) ∙ rw (lt, f) refl)

  below_are : (branches : List Branch) (are : AreBranches t allowed branches) (prices : ℕ → ℕ) (next : ℕ) → IsPriced branches are prices next → Below branches prices next
  below_are [] are prices next priced = (refl, refl)
  below_are (None ∷ branches) are prices next priced =
      let h = below_are branches are prices next priced in
      let g = h.0 in let s = h.1 in (
        omega (arith, greatest_append (under prices (Alone (teams_from branches)) next) 1 (members (teams_from branches)), greatest_same (λ i. under prices (Alone (teams_from branches)) next (1 + i)) (under prices (teams_from branches) next) (members (teams_from branches)) (λ i lt. later i)),
        omega (arith, total_append (under prices (Alone (teams_from branches)) next) 1 (members (teams_from branches)), total_same (λ i. under prices (Alone (teams_from branches)) next (1 + i)) (under prices (teams_from branches) next) (members (teams_from branches)) (λ i lt. later i)),
      )
    where
      later : (i : ℕ) → under prices (Alone (teams_from branches)) next (1 + i) ≡ under prices (teams_from branches) next i
      later i = let e : 1 + i ≡ suc i = omega arith in rw e refl
  below_are (Some T ∷ branches) are prices next priced =
      let rest : Teams = teams_from branches in
      let h = below_are branches are.1 prices (next + 1 + nodes_in T.teams) (λ v lv. behind v lv) in
      let g = h.0 in let s = h.1 in (
        omega (
          arith,
          greatest_append (under prices (Meet T.teams rest) next) (members T.teams) (members rest),
          greatest_same (under prices (Meet T.teams rest) next) (steps_of T) (members T.teams) (branch_steps T branches are prices next priced),
          greatest_same (λ i. under prices (Meet T.teams rest) next (members T.teams + i)) (under prices rest (next + 1 + nodes_in T.teams)) (members rest) (λ i lt. under_later prices T.teams rest next i),
        ),
        omega (
          arith,
          total_append (under prices (Meet T.teams rest) next) (members T.teams) (members rest),
          total_same (under prices (Meet T.teams rest) next) (steps_of T) (members T.teams) (branch_steps T branches are prices next priced),
          total_same (λ i. under prices (Meet T.teams rest) next (members T.teams + i)) (under prices rest (next + 1 + nodes_in T.teams)) (members rest) (λ i lt. under_later prices T.teams rest next i),
        ),
      )
    where
      behind : (v : ℕ) → v < nodes_in (teams_from branches) → prices (next + 1 + nodes_in T.teams + v) ≡ price (sight_from branches are.1 v)
      behind v lv =
          let e : next + 1 + nodes_in T.teams + v ≡ next + suc (nodes_in T.teams + v) = omega arith in
          let lt : nat_lt (nodes_in T.teams + v) (nodes_in T.teams) ≡ false = grind (arith, nat_tests) in
          let same : nodes_in T.teams + v - nodes_in T.teams ≡ v = omega arith in
          ap prices e ∙ (priced (suc (nodes_in T.teams + v)) (omega arith) ∙ rw (lt, same) refl)

-- ---- the joined tree
module _ (t : TypeTable) (allowed : Sight → Bool) (k : Sight) (branches : List Branch) (is_allowed : allowed k ≡ true) (has : HasSizes t k (map size_of branches)) (some : 1 ≤ sum (map size_of branches)) (are : AreBranches t allowed branches) where
  abbrev whole : Teams
  whole = teams_from branches

  abbrev all_sights : ℕ → Sight
  all_sights zero = k
  all_sights (suc v) = sight_from t allowed k branches are v

  root_has : HasSizes t k (sizes_of whole)
  root_has = rw (from_sizes branches) has

  part_has : (v : ℕ) → 0 < members (node_at whole v).teams → (allowed (all_sights v) ≡ true) × HasSizes t (all_sights v) (sizes_of (node_at whole v).teams)
  part_has zero people = (is_allowed, root_has)
  part_has (suc v) people = found_from t allowed k branches are v people

  abbrev joined_tree : PlanTree
  joined_tree = filled_tree t allowed whole all_sights root_has is_allowed part_has

  abbrev prices : ℕ → ℕ
  prices v = price (all_sights v)

  joined_steps : (p : ℕ) → p < members whole → steps_of joined_tree p ≡ under prices whole 1 p + price k
  joined_steps p lp = steps_are joined_tree all_sights (filled_alike t allowed whole all_sights root_has is_allowed part_has) p lp

  size_is : members whole ≡ sum (map size_of branches)
  size_is = sym (sizes_sum whole) ∙ ap sum (from_sizes branches)

  lower : Below t allowed k branches prices 1
  lower = below_are t allowed k branches are prices 1 (λ v lv. let e : 1 + v ≡ suc v = omega arith in rw e refl)

  pub joined : (T : PlanTree) × IsTreeFor t allowed (sum (map size_of branches)) T × (cost T ≡ joined_cost k branches)
  joined = (
    joined_tree,
    subst (λ n. IsTreeFor t allowed n joined_tree) size_is (filled_is t allowed whole all_sights root_has is_allowed part_has),
    same_cost (cost joined_tree).steps (cost joined_tree).nodes (cost joined_tree).sum (price k + greatest_steps branches) (1 + all_nodes branches) (sum (map size_of branches) * price k + all_steps branches)
        (let l = lower.0 in let s = size_is in omega (arith, greatest_same (steps_of joined_tree) (λ p. under prices whole 1 p + price k) (members whole) joined_steps, greatest_plus (under prices whole 1) (price k) (members whole) (omega arith)))
        (ap (λ (n : ℕ). 1 + n) (from_nodes branches))
        (let l = lower.1 in let s : members whole * price k ≡ sum (map size_of branches) * price k = ap (λ (m : ℕ). m * price k) size_is in
        omega (arith, total_same (steps_of joined_tree) (λ p. under prices whole 1 p + price k) (members whole) joined_steps, total_plus (under prices whole 1) (price k) (members whole))),
  )
