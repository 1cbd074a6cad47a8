-- A certificate that is right has no number above the greatest one.
use Rattle.std.proofs.Common.{ℕ, zero, suc, ◌≡◌, ◌+◌, ◌*◌, ◌<◌, ◌≤◌, ◌&&◌, Bool, true, List, [], ◌∷◌, ◌++◌, length, map, refl, ap, sym, subst, arith}
use Rattle.std.specs.Prelude.{All, slice_index, slice_index_or}
use Rattle.std.specs.List.{list_all}
use Rattle.std.proofs.lemmas.Bool.Decides.{nat_tests}
use Rattle.std.proofs.lemmas.List.{get_or-map, length-map}
use Rattle.std.proofs.lemmas.List.Elements.{All-append, All-cons, All-head, All-nil, All-tail, All-weaker}
use Rattle.serde_json.specs.Data.{Data}
use Rattle.serde_json.specs.View.{items_of}
use Rattle.cn_table.specs.Names.{is_name}
use Rattle.cn_table.specs.TypeTable.{IsTypeTable, Row, TypeTable}
use Rattle.cn_table.specs.declared.elements.Operation.{Operation}
use Rattle.cn_cert.specs.CertificateText.{number_data}
use Rattle.cn_cert.specs.Document.{list_of}
use Rattle.cn_meetings.specs.Meeting.{IsSightOf}
use Rattle.cn_meetings.specs.Sights.{sight_of}
use Rattle.cn_meetings.specs.declared.sight.Sight.{Sight}
use Rattle.cn_meetings.specs.declared.sight.Sight.TheVariants.{Nothing, Response, State}
use Rattle.cn_trees.specs.Consensus.{steps_of}
use Rattle.cn_trees.specs.Tree.{PlanTree, Teams, levels, members, nodes_in, path_of}
use Rattle.cn_trees.specs.Tree.Teams.{Alone, Last, Meet}
use Rattle.cn_tree_cert.specs.Certificate.{TreeCertificate, TreeNode}
use Rattle.cn_tree_cert.specs.Kinds.{greatest, is_in_range, is_node, is_number, is_sight}
use Rattle.cn_tree_cert.specs.TreeText.{node_data, operation_data, sight_data, tree_certificate_data}
use Rattle.cn_tree_costs.specs.Cost as costs
use Rattle.cn_tree_costs.specs.Sizes.{sizes_of}
use Rattle.cn_tree_plans.specs.Plan.{NodeMeeting, no_meeting, tree_with}
use Rattle.cn_tree_plans.proofs.TeamLemmas.{levels-nodes, several_bound}
use Rattle.cn_tree_check.specs.Right.{IsRightBy, meeting_of, meetings_of}
use Rattle.cn_tree_check.specs.Sizes.{all_sizes, below_sizes}
use Rattle.cn_tree_check.proofs.HeadLemmas.{as_many}

both : {x y : Bool} → x ≡ true → y ≡ true → (x && y) ≡ true
both p q = rw (p, q)

number_in : (n : ℕ) → n ≤ 255 → is_number greatest (number_data n) ≡ true
number_in n l = grind (arith, nat_tests)

-- an array of values of a kind
all_in : {X : Type 0} (json : X → Data) (kind : Data → Bool) (xs : List X) → All (λ x. kind (json x) ≡ true) xs → list_all kind (list_of (items_of (map json xs))) ≡ true
all_in json kind [] h = refl
all_in json kind (x ∷ xs) h =
    both (All-head (λ y. kind (json y) ≡ true) x xs h) (all_in json kind xs (All-tail (λ y. kind (json y) ≡ true) x xs h))

sight_in : (t : TypeTable) (s : Sight) → length t.operations ≤ 255 → IsSightOf t (sight_of s) → is_sight greatest (sight_data s) ≡ true
sight_in t State few is = refl
sight_in t Nothing few is = refl
sight_in t (Response o) few is = let known = is.known in number_in o.0 (omega arith)

-- the parts of a node are in range
pub record IsSmall (n : TreeNode) : Type 0 where
  pub start : n.start ≤ 255
  pub sight : is_sight greatest (sight_data n.sight) ≡ true
  pub operations : All (λ (o : Operation). o.0 ≤ 255) n.operations
  pub teams : All (λ (m : ℕ). m ≤ 255) n.teams

node_in : (n : TreeNode) → IsSmall n → is_node greatest (node_data n) ≡ true
node_in n small =
    let operations = all_in operation_data (is_number greatest) n.operations
    (All-weaker (λ (o : Operation). o.0 ≤ 255) (λ (o : Operation). is_number greatest (operation_data o) ≡ true) (λ o l. number_in o.0 l) n.operations small.operations) in
    let teams = all_in number_data (is_number greatest) n.teams
    (All-weaker (λ (m : ℕ). m ≤ 255) (λ (m : ℕ). is_number greatest (number_data m) ≡ true) (λ m l. number_in m l) n.teams small.teams) in
    both (number_in n.start small.start) (both small.sight (both operations teams))

pub in_range : (c : TreeCertificate) → All IsSmall c.nodes → c.processes ≤ 255 → c.steps ≤ 255 → is_name c.type_name ≡ true → is_in_range (tree_certificate_data c) ≡ true
in_range c nodes processes steps name =
    let all = all_in node_data (is_node greatest) c.nodes (All-weaker IsSmall (λ (n : TreeNode). is_node greatest (node_data n) ≡ true) node_in c.nodes nodes) in
    both refl (both all (both (number_in c.processes processes) (both (number_in c.steps steps) (both name refl))))

-- ---- teams

sizes_small : (s : Teams) → All (λ (m : ℕ). m ≤ members s) (sizes_of s)
sizes_small Last = All-nil (λ (m : ℕ). m ≤ 0)
sizes_small (Alone r) =
    let P = λ (m : ℕ). m ≤ 1 + members r in
    All-cons P 1 (sizes_of r) (omega arith) (All-weaker (λ (m : ℕ). m ≤ members r) P (λ m l. omega arith) (sizes_of r) (sizes_small r))
sizes_small (Meet s r) =
    let P = λ (m : ℕ). m ≤ members s + members r in
    All-cons P (members s) (sizes_of r) (omega arith) (All-weaker (λ (m : ℕ). m ≤ members r) P (λ m l. omega arith) (sizes_of r) (sizes_small r))

abbrev AreAtMost : ℕ → List ℕ → Type 0
AreAtMost n xs = All (λ (m : ℕ). m ≤ n) xs

more : (n k : ℕ) → n ≤ k → (xs : List ℕ) → AreAtMost n xs → AreAtMost k xs
more n k l xs h = All-weaker (λ (m : ℕ). m ≤ n) (λ (m : ℕ). m ≤ k) (λ m le. omega arith) xs h

below_small : (s : Teams) → All (AreAtMost (members s)) (below_sizes s)
below_small Last = All-nil (AreAtMost 0)
below_small (Alone r) = All-weaker (AreAtMost (members r)) (AreAtMost (1 + members r)) (more (members r) (1 + members r) (omega arith)) (below_sizes r) (below_small r)
below_small (Meet s r) =
    let P = AreAtMost (members s + members r) in
    let inner = All-weaker (AreAtMost (members s)) P (more (members s) (members s + members r) (omega arith)) (below_sizes s) (below_small s) in
    let outer = All-weaker (AreAtMost (members r)) P (more (members r) (members s + members r) (omega arith)) (below_sizes r) (below_small r) in
    All-cons P (sizes_of s) (below_sizes s ++ below_sizes r) (more (members s) (members s + members r) (omega arith) (sizes_of s) (sizes_small s))
    (All-append P (below_sizes s) (below_sizes r) inner outer)

all_small : (s : Teams) → All (AreAtMost (members s)) (all_sizes s)
all_small s = All-cons (AreAtMost (members s)) (sizes_of s) (below_sizes s) (sizes_small s) (below_small s)

-- ---- steps

greatest_small : (f : ℕ → ℕ) (b : ℕ) → ((p : ℕ) → f p ≤ b) → (n : ℕ) → costs.greatest f n ≤ b
greatest_small f b small zero = omega arith
greatest_small f b small (suc n) = let so_far = greatest_small f b small n in let here = small n in omega arith

-- the laws of steps
abbrev pub StepsAreFew : Type 0
StepsAreFew = (T : PlanTree) (p : ℕ) → steps_of T p ≤ 4 * length (path_of T p)

abbrev pub PathsAreShort : Type 0
PathsAreShort = (T : PlanTree) (p : ℕ) → length (path_of T p) ≤ levels T.teams

module _ (few_steps : StepsAreFew) (short_paths : PathsAreShort) (t : TypeTable) (known : IsTypeTable t) (c : TreeCertificate) (s : Teams) (right : IsRightBy t c s) where
  steps_small : c.steps ≤ 255
  steps_small =
      let T = tree_with t s (meetings_of c) in
      let is = right.tree.fits.tree in
      let bound = several_bound s is.proper.below in
      let several = is.proper.several in
      let high = levels-nodes s in
      let few = is.few in
      let each : (p : ℕ) → steps_of T p ≤ 32 = λ p. let own = few_steps T p in let path = short_paths T p in omega arith in
      let all = greatest_small (steps_of T) 32 each (members s) in
      let told = right.steps in
      omega arith

  node_small : (k : ℕ) (n : TreeNode) → k < length c.nodes → IsSmall (slice_index_or c.nodes k n)
  node_small k n l =
      let is = right.tree.fits.tree in
      let here = slice_index_or c.nodes k n in
      let count = as_many c.nodes s is.teams in
      let inside : k < 1 + nodes_in s = omega (arith, count, l) in
      let meets : slice_index_or (meetings_of c) k no_meeting ≡ meeting_of here = get_or-map meeting_of c.nodes k n no_meeting l in
      let known_start = right.tree.fits.meetings.starts k inside in
      let states = known.states.few in
      let start : here.start ≤ 255 = omega (arith, subst (λ (m : NodeMeeting). m.start < length t.states) meets known_start, states) in
      let operations = known.operations.few in
      let rows = length-map t.operations (λ (r : Row). r.name) in
      let sight = subst (λ (m : NodeMeeting). IsSightOf t (sight_of m.sight)) meets (right.tree.fits.meetings.sights k inside) in
      let size : length here.operations ≡ length (meeting_of here).operations = sym (length-map here.operations (λ (o : Operation). o.0)) in
      let own : length (meeting_of here).operations ≡ length (slice_index_or (meetings_of c) k no_meeting).operations = ap (λ (m : NodeMeeting). length m.operations) (sym meets) in
      let fits = right.tree.fits.meetings.sizes k inside in
      let each : (j : ℕ) (o : Operation) → j < length here.operations → (slice_index_or here.operations j o).0 ≤ 255 = λ j o less.
      let read : slice_index (meeting_of here).operations j ≡ (slice_index_or here.operations j o).0 = get_or-map (λ (q : Operation). q.0) here.operations j o 0 less in
      let small = subst (λ (m : NodeMeeting). slice_index m.operations j < length t.operations) meets (right.tree.fits.meetings.operations k j inside (omega (arith, less, size, own, fits))) in
      omega (arith, small, read, operations, rows) in
      let sizes : AreAtMost (members s) here.teams =
      subst (AreAtMost (members s)) (get_or-map (λ (m : TreeNode). m.teams) c.nodes k n [] l)
      (subst (All (AreAtMost (members s))) is.teams (all_small s) k [] (omega (arith, l, length-map c.nodes (λ (m : TreeNode). m.teams)))) in
      let few = is.few in
      record { start = start; sight = sight_in t here.sight (omega (arith, operations, rows)) sight; operations = each; teams = more (members s) 255 (omega arith) here.teams sizes }

  pub right_in_range : is_in_range (tree_certificate_data c) ≡ true
  right_in_range =
      let is = right.tree.fits.tree in
      let few = is.few in
      let told = is.processes in
      in_range c node_small (omega arith) steps_small (subst (λ (name : List ℕ). is_name name ≡ true) (sym right.type_name) known.name)
