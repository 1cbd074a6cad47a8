-- The judgements of all nodes make a plan tree, or a node is no witness.
use Rattle.std.proofs.Common.{Err, ℕ, ◌≡◌, ◌⊎◌, inl, inr, ◌+◌, ◌-◌, ◌<◌, ◌≤◌, List, [], length, slice_index_or, subst, ◌∙◌, arith}
use Rattle.std.proofs.lemmas.Bool.{cases_lt}
use Rattle.cn_table.specs.TypeTable.{IsTypeTable, TypeTable}
use Rattle.cn_choice.specs.declared.limits.TheConstants.{MOST_PROCESSES}
use Rattle.cn_meetings.specs.Witness.{Has, IsTeamWitness}
use Rattle.cn_trees.specs.Tree.{AreWitnesses, Teams, comes_to, members, nodes_in, team_in}
use Rattle.cn_tree_costs.specs.Nodes.{node_at}
use Rattle.cn_tree_costs.specs.Sizes.{sizes_of}
use Rattle.cn_tree_plans.specs.Listing.{SomeShowSame}
use Rattle.cn_tree_plans.specs.Made.{AreNodeLists, FaultFits, IsFirstMeeting, IsNodeJudged, IsRefused, fault_at}
use Rattle.cn_tree_plans.specs.Plan.{AreJudgements, AreMeetings, IsTreePlan, NodeMeeting, meeting_in, no_meeting, tree_with}
use Rattle.cn_tree_plans.specs.Teams.{AreProper}
use Rattle.cn_tree_plans.specs.declared.judged.Judged.{Judged}
use Rattle.cn_tree_plans.specs.declared.making.NodeFault.{NodeFault}
use Rattle.cn_tree_plans.specs.declared.making.NodeFault.TheVariants.{Meets, OutOfMemory}
use Rattle.cn_tree_plans.proofs.NodeLemmas.{entries_exact, is_witness, not_twice, shown_twice}
use Rattle.cn_tree_plans.proofs.Outcomes.{Outcomes, Pairs}
use Rattle.cn_tree_plans.proofs.PlanLemmas.{ComesIs, TeamIs, node_there}
use Rattle.cn_tree_plans.proofs.TeamLemmas.{within}

pub judged_same : (t : TypeTable) (m m' : NodeMeeting) (sizes sizes' : List ℕ) (fault : NodeFault) → m ≡ m' → sizes ≡ sizes' → IsNodeJudged t m sizes (Err fault) → IsNodeJudged t m' sizes' (Err fault)
judged_same t m m' sizes sizes' fault e f h =
    subst (λ (x : NodeMeeting). IsNodeJudged t x sizes' (Err fault)) e (subst (λ (y : List ℕ). IsNodeJudged t m y (Err fault)) f h)

module _ (outcomes : Outcomes) (pairs : Pairs) (comes_is : ComesIs) (team_is : TeamIs) (t : TypeTable) (s : Teams) (meetings : List NodeMeeting)
    (known : IsTypeTable t) (proper : AreProper s) (few : members s ≤ MOST_PROCESSES) (fits : AreMeetings t s meetings) where
  none_same : (n : ℕ) (judged : List (List (List Judged))) → AreNodeLists t s meetings n judged → (v : ℕ) → v < n → v < 1 + nodes_in s → (k : ℕ) → k < members (node_at s v).teams
      → ¬ SomeShowSame t (slice_index_or meetings v no_meeting) (sizes_of (node_at s v).teams) k
  none_same n judged are v lv ln k lk = ((are.each v lv).each k (omega (arith, fits.sizes v ln))).apart

  pub first_meeting : (v k : ℕ) (judged : List (List (List Judged))) → v < 1 + nodes_in s → AreNodeLists t s meetings v judged
      → k < length (slice_index_or meetings v no_meeting).operations
      → SomeShowSame t (slice_index_or meetings v no_meeting) (sizes_of (node_at s v).teams) k
      → ((j : ℕ) → j < k → ¬ SomeShowSame t (slice_index_or meetings v no_meeting) (sizes_of (node_at s v).teams) j)
      → IsFirstMeeting (tree_with t s meetings) v ((node_at s v).first + k)
  first_meeting v k judged lv are lk same none =
      let inside : k < members (node_at s v).teams = omega (arith, fits.sizes v lv) in
      record {
        node = lv;
        comes = (comes_is s v ((node_at s v).first + k)).1 (omega arith, omega arith);
        meets = shown_twice outcomes pairs comes_is team_is t s meetings known proper few fits v lv k inside same;
        least_node = λ w lw. (let ln : w < 1 + nodes_in s = omega arith in
            is_witness outcomes pairs comes_is team_is t s meetings known proper few fits w ln (none_same v judged are w lw ln));
        least_process = λ q lq. not_twice outcomes pairs comes_is team_is t s meetings known proper few fits v lv q (λ j e. none j (omega arith));
      }

  pub fault_fits : (v : ℕ) (fault : NodeFault) → v < 1 + nodes_in s → IsNodeJudged t (slice_index_or meetings v no_meeting) (sizes_of (node_at s v).teams) (Err fault) → FaultFits (node_at s v).first fault
  fault_fits v (Meets k) lv h = let l = h.0 in omega (arith, fits.sizes v lv, within s v)
  fault_fits v OutOfMemory lv h = tt

  pub fault_right : (v : ℕ) (fault : NodeFault) (judged : List (List (List Judged))) → v < 1 + nodes_in s → AreNodeLists t s meetings v judged
      → IsNodeJudged t (slice_index_or meetings v no_meeting) (sizes_of (node_at s v).teams) (Err fault) → IsRefused t s meetings (fault_at v (node_at s v).first fault)
  fault_right v (Meets k) judged lv are h = first_meeting v k judged lv are h.0 h.1 h.2
  fault_right v OutOfMemory judged lv are h = tt

  module _ (judged : List (List (List Judged))) (are : AreNodeLists t s meetings (1 + nodes_in s) judged) where
    pub all_witnesses : AreWitnesses (tree_with t s meetings)
    all_witnesses v = go (cases_lt v (1 + nodes_in s))
      where
        go : (v < 1 + nodes_in s) ⊎ (1 + nodes_in s ≤ v) → IsTeamWitness t (meeting_in s meetings v) (comes_to s v) (team_in s v)
        go (inl l) = is_witness outcomes pairs comes_is team_is t s meetings known proper few fits v l (none_same (1 + nodes_in s) judged are v l l)
        go (inr l) = λ g h p r saw alpha beta a b bg bh.
            absurd (let there = node_there s v p (a.is_order.members a.answered.0 p a.answered.1) in omega arith)

    pub all_judgements : AreJudgements (record { table = t; teams = s; meetings = meetings; judged = judged })
    all_judgements = record {
      count = are.count;
      sizes = λ v lv. (are.each v lv).count ∙ fits.sizes v lv;
      exact = λ v p x h. (let lv = node_there s v p h in
          entries_exact outcomes pairs comes_is team_is t s meetings known proper few fits v lv p (slice_index_or (slice_index_or judged v []) (p - (node_at s v).first) []) h
          ((are.each v lv).each (p - (node_at s v).first) (inside v p h lv)) x);
      in_order = λ v p h. (let lv = node_there s v p h in ((are.each v lv).each (p - (node_at s v).first) (inside v p h lv)).in_order);
    }
      where
        inside : (v p : ℕ) → Has (comes_to s v) p → v < 1 + nodes_in s → p - (node_at s v).first < length (slice_index_or meetings v no_meeting).operations
        inside v p h lv = let among = (comes_is s v p).0 h in let a = among.0 in let b = among.1 in omega (arith, fits.sizes v lv)

    pub is_tree_plan : IsTreePlan (record { table = t; teams = s; meetings = meetings; judged = judged })
    is_tree_plan = record { known = known; proper = proper; few = few; fits = fits; judged = all_judgements }
