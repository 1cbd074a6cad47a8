-- Plan trees in memory.
use Rattle.std.proofs.Common.{ℕ, zero, suc, ◌≡◌, ◌↔◌, ◌⊎◌, inl, inr, ◌+◌, ◌-◌, ◌<◌, ◌≤◌, Bool, true, false, ◌&&◌, AllPairs, List, [], ◌∷◌, ◌++◌, get_or, length, nat_eq, nat_lt, slice_index_or, Option, Some, None, refl, sym, ap, ◌∙◌, subst, arith, if◌then◌else◌, add-one, length-append}
use Rattle.std.specs.Prelude.{◌==◌, Contains, find, sum}
use Rattle.std.specs.Option.{option_map_or}
use Rattle.std.proofs.Math.Seq.{get_or-append_seam}
use Rattle.std.proofs.lemmas.Bool.{cases_lt}
use Rattle.std.proofs.lemmas.Bool.Decides.{nat_tests}
use Rattle.std.proofs.lemmas.List.{get_or-map, get_or_append_left, length-map}
use Rattle.std.proofs.Math.ListN.{get_or-eq_default}
use Rattle.cn_meetings.specs.Meeting.{Sight}
use Rattle.cn_meetings.specs.Meeting.Sight.{Nothing}
use Rattle.cn_meetings.specs.Sights.{sight_of}
use Rattle.cn_meetings.specs.Witness.{BeginsIn, Has, IsOrderOf}
use Rattle.cn_trees.specs.Consensus.{steps_before}
use Rattle.cn_trees.specs.Steps.{looks_at}
use Rattle.cn_trees.specs.Tree.{IsOfType, IsPlace, IsPlanTree, Place, PlanTree, Teams, comes_to, members, nodes_in, path_in, path_of, place_of as place_in, team_in}
use Rattle.cn_trees.proofs.Paths.{path_short}
use Rattle.cn_trees.proofs.Places.{came, come, node_known, starts, team_there}
use Rattle.cn_tree_costs.specs.Cost.{IsUniform}
use Rattle.cn_tree_costs.specs.Nodes.{IsAmong, node_at}
use Rattle.cn_tree_costs.specs.Sizes.{block, sizes_of}
use Rattle.cn_tree_costs.proofs.Numbers.{sum_cons}
pub use Rattle.cn_tree_costs.proofs.Numbers.{sizes_sum}
use Rattle.cn_tree_plans.specs.Paths.{IsPlaceOf, place_of, places_of}
use Rattle.cn_tree_plans.specs.Plan.{IsTreePlan, JudgedBefore, TreePlan, judged_at, judged_team, no_meeting, tree_of}
use Rattle.cn_tree_plans.specs.Sights.{HasSights}
use Rattle.cn_tree_plans.specs.declared.judged.Judged.{Judged}
use Rattle.cn_tree_plans.specs.declared.place.Place.{Place as PlaceInMemory}
use Rattle.cn_tree_plans.proofs.ListingLemmas.{entry}
use Rattle.cn_tree_plans.proofs.TeamLemmas.{levels-nodes, proper_at, several_bound}

-- ---- the teams of a node
block_below : (sizes : List ℕ) (k : ℕ) → k < sum sizes → block sizes k < length sizes
block_below [] k l = absurd (omega arith)
block_below (m ∷ sizes) k l = go (nat_lt k m) refl (block_below sizes (k - m))
  where
    go : (b : Bool) → nat_lt k m ≡ b → (k - m < sum sizes → block sizes (k - m) < length sizes) → (if b then 0 else suc (block sizes (k - m))) < suc (length sizes)
    go true e on = omega arith
    go false e on =
        let le : m ≤ k = grind (arith, nat_tests) in
        let i = on (omega (arith, sum_cons m sizes)) in
        omega arith

abbrev pub ComesIs : Type 0
ComesIs = (s : Teams) (v p : ℕ) → Has (comes_to s v) p ↔ IsAmong (node_at s v) p

abbrev pub TeamIs : Type 0
TeamIs = (s : Teams) (v p : ℕ) → Has (comes_to s v) p
    → team_in s v p ≡ block (sizes_of (node_at s v).teams) (p - (node_at s v).first)

pub team_inside : ComesIs → TeamIs → (s : Teams) (v p : ℕ) → Has (comes_to s v) p
    → team_in s v p < length (sizes_of (node_at s v).teams)
team_inside comes_is team_is s v p h =
    let among = (comes_is s v p).0 h in
    let a = among.0 in let b = among.1 in
    let l = block_below (sizes_of (node_at s v).teams) (p - (node_at s v).first) (omega (arith, sizes_sum (node_at s v).teams)) in
    omega (arith, team_is s v p h)

-- ---- nodes
-- a tree with these teams
abbrev bare : Teams → PlanTree
bare s = record { table = record { name = []; states = []; responses = []; operations = [] }; teams = s; meeting = λ v. record { start = 0; operation = λ p. 0; sight = λ p. Nothing }; judge = λ v p r q. 0 }

-- a node to which a process comes is one of the tree
pub node_there : (s : Teams) (v p : ℕ) → Has (comes_to s v) p → v < 1 + nodes_in s
node_there s v p h =
    let it = came s v p h in
    subst (λ (w : ℕ). w < 1 + nodes_in s) it.node_is (node_known (bare s) p it.at (it.known, it.inside))

-- ---- paths
module _ (comes_is : ComesIs) (team_is : TeamIs) (s : Teams) (p : ℕ) (places : List PlaceInMemory) (lp : p < members s) (same : places_of places ≡ path_in s p) where
  length_same : length places ≡ length (path_in s p)
  length_same = omega (arith, ap length same, length-map places place_of)

  pub known_place : (k : ℕ) (d : PlaceInMemory) → k < length places → IsPlaceOf s p (slice_index_or places k d)
  known_place k d l =
      let x : PlaceInMemory = slice_index_or places k d in
      let at : IsPlace (bare s) p k = (lp, omega (arith, length_same)) in
      let e : slice_index_or (path_in s p) k (record { node = 0; team = 0 }) ≡ place_of x =
      ap (λ path. slice_index_or path k (record { node = 0; team = 0 })) (sym same) ∙ get_or-map place_of places k d _ l in
      let comes : Has (comes_to s x.node) p = subst (λ (y : Place). Has (comes_to s y.node) p) e (come (bare s) p k at) in
      let team : team_in s x.node p ≡ x.team = subst (λ (y : Place). team_in s y.node p ≡ y.team) e (team_there (bare s) p k at) in
      record {
        node = subst (λ (y : Place). y.node < 1 + nodes_in s) e (node_known (bare s) p k at);
        comes = comes;
        team = team;
        inside = omega (arith, team, team_inside comes_is team_is s x.node p comes);
      }

  -- the node of a process that comes there is on its path
  pub on_path : (v : ℕ) (d : PlaceInMemory) → Has (comes_to s v) p → ((k : ℕ) → k < length places → (slice_index_or places k d).node ≡ v → ⊥) → ⊥
  on_path v d h other =
      let it = came s v p h in
      let i = it.inside in
      let l : it.at < length places = omega (arith, length_same) in
      let e : slice_index_or (path_in s p) it.at (record { node = 0; team = 0 }) ≡ place_of (slice_index_or places it.at d) =
      ap (λ path. slice_index_or path it.at (record { node = 0; team = 0 })) (sym same) ∙ get_or-map place_of places it.at d _ l in
      other it.at l (ap (λ (y : Place). y.node) (sym e) ∙ it.node_is)

  pub some_place : 1 ≤ length places
  some_place = omega (arith, length_same, starts (bare s) p lp)

  pub few_places : length places ≤ 1 + nodes_in s
  few_places = omega (arith, length_same, path_short s 0 0 1 p, levels-nodes s)

-- the paths so far, and the next one
pub record ArePathsSoFar (s : Teams) (n : ℕ) (paths : List (List PlaceInMemory)) : Type 0 where
  pub count : length paths ≡ n
  pub each : (p : ℕ) → p < n → places_of (slice_index_or paths p []) ≡ path_in s p

pub paths_push : (s : Teams) (n : ℕ) (paths : List (List PlaceInMemory)) (path : List PlaceInMemory)
    → ArePathsSoFar s n paths → places_of path ≡ path_in s n → ArePathsSoFar s (n + 1) (paths ++ path ∷ [])
paths_push s n paths path are next = record {
  count = omega (arith, length-append paths (path ∷ []), are.count);
  each = λ p l. at p (cases_lt p n) l;
}
  where
    at : (p : ℕ) → (p < n) ⊎ (n ≤ p) → p < n + 1 → places_of (slice_index_or (paths ++ path ∷ []) p []) ≡ path_in s p
    at p (inl l) u = ap places_of (get_or_append_left paths (path ∷ []) [] p (omega (arith, are.count))) ∙ are.each p l
    at p (inr l) u =
        let e : p ≡ n = omega arith in
        rw e (ap places_of (ap (λ k. slice_index_or (paths ++ path ∷ []) k []) (sym are.count) ∙ get_or-append_seam paths path [] []) ∙ next)

-- ---- judgements
find_in : (f : Judged → Bool) (xs : List Judged) (x : Judged) → find f xs ≡ Some x → Contains xs x
find_in f [] x e = absurd cc
find_in f (y ∷ xs) x e = go (f y) e (find_in f xs x)
  where
    go : (b : Bool) → (if b then Some y else find f xs) ≡ Some x → (find f xs ≡ Some x → Contains xs x) → Contains (y ∷ xs) x
    go true h on = (0, omega arith, cc)
    go false h on = (let i = on h in (suc i.0, omega (arith, i.1), i.2))

-- a team that is judged is one of the node
pub judged_inside : ComesIs → TeamIs → (plan : TreePlan) → IsTreePlan plan → (v p r q : ℕ) → Has (comes_to plan.teams v) p
    → judged_team (judged_at plan v p) r q < length (sizes_of (node_at plan.teams v).teams)
judged_inside comes_is team_is plan is v p r q h =
    go (find (λ x. (x.response.0 == r) && (x.saw == q)) (judged_at plan v p)) refl
  where
    first : (g : ℕ) (order : List ℕ) → IsOrderOf (comes_to plan.teams v) order → BeginsIn (team_in plan.teams v) g order → g < length (sizes_of (node_at plan.teams v).teams)
    first g [] order_is b = absurd b
    first g (x ∷ order) order_is b = omega (arith, b, team_inside comes_is team_is plan.teams v x (order_is.members 0 x refl))

    go : (o : Option Judged) → find (λ x. (x.response.0 == r) && (x.saw == q)) (judged_at plan v p) ≡ o → option_map_or (λ x. x.team) o 0 < length (sizes_of (node_at plan.teams v).teams)
    go None e = omega (arith, (proper_at plan.teams v is.proper (node_there plan.teams v p h)).several)
    go (Some x) e =
        let shown = (is.judged.exact v p x h).0 (find_in (λ x. (x.response.0 == r) && (x.saw == q)) (judged_at plan v p) x e) in
        first x.team shown.0 shown.1.is_order shown.2

-- ---- steps
pub steps_next : (T : PlanTree) (p i : ℕ) (x : PlaceInMemory) (price : ℕ) → place_in T p i ≡ place_of x → ◌≡◌ {A = ℕ} (if looks_at T x.node p then 4 else 3) price
    → steps_before T p (i + 1) ≡ steps_before T p i + price
steps_next T p i x price e l =
    let here : ◌≡◌ {A = ℕ} (if looks_at T (place_in T p i).node p then 4 else 3) price = ap (λ (y : Place). if looks_at T y.node p then 4 else 3) e ∙ l in
    rw add-one (ap (λ c. steps_before T p i + c) here)

pub place_is : (T : PlanTree) (p : ℕ) (places : List PlaceInMemory) → places_of places ≡ path_of T p → (k : ℕ) (d : PlaceInMemory) → k < length places
    → place_in T p k ≡ place_of (slice_index_or places k d)
place_is T p places same k d l = ap (λ path. slice_index_or path k (record { node = 0; team = 0 })) (sym same) ∙ get_or-map place_of places k d _ l

pub few_nodes : (plan : TreePlan) → IsTreePlan plan → 1 + nodes_in plan.teams ≤ 7
few_nodes plan is = omega (arith, several_bound plan.teams is.proper.below, is.proper.several, is.few)

-- ---- plans judge right
abbrev test : ℕ → ℕ → Judged → Bool
test r q x = (x.response.0 == r) && (x.saw == q)

test_here : (r q g : ℕ) → test r q (entry r q g) ≡ true
test_here r q g =
    let a : nat_eq r r ≡ true = grind (arith, nat_tests) in
    let b : nat_eq q q ≡ true = grind (arith, nat_tests) in
    rw (a, b) refl

test_before : (r q g : ℕ) (y : Judged) → JudgedBefore y (entry r q g) → test r q y ≡ false
test_before r q g y (inl l) = let a : nat_eq y.response.0 r ≡ false = grind (arith, nat_tests) in rw a refl
test_before r q g y (inr h) =
    let e = h.0 in let l = h.1 in
    let a : nat_eq y.response.0 r ≡ true = grind (arith, nat_tests) in
    let b : nat_eq y.saw q ≡ false = grind (arith, nat_tests) in
    rw (a, b) refl

find_is : (r q g : ℕ) (xs : List Judged) → AllPairs JudgedBefore xs → (i : ℕ) → i < length xs → get_or xs i (entry r q g) ≡ entry r q g → find (test r q) xs ≡ Some (entry r q g)
find_is r q g [] pairs i l e = absurd (omega arith)
find_is r q g (y ∷ xs) pairs zero l e =
    subst (λ (z : Judged). (if test r q z then Some z else find (test r q) xs) ≡ Some (entry r q g)) (sym e) (rw (test_here r q g) refl)
find_is r q g (y ∷ xs) pairs (suc i) l e =
    let before : JudgedBefore y (entry r q g) = subst (λ (z : Judged). JudgedBefore y z) e (pairs 0 (suc i) (entry r q g) (omega arith) l) in
    rw (test_before r q g y before) (find_is r q g xs (λ j k d lj lk. pairs (suc j) (suc k) d (omega (arith, lj)) (omega (arith, lk))) i (omega arith) e)

pub judges_right : (plan : TreePlan) → IsTreePlan plan → IsPlanTree (tree_of plan)
judges_right plan is v g p r saw order shown begins =
    let comes = shown.is_order.members shown.answered.0 p shown.answered.1 in
    let at = (is.judged.exact v p (entry r saw g) comes).1 (order, shown, begins) in
    let found = find_is r saw g (judged_at plan v p) (is.judged.in_order v p comes) at.0 at.1 at.2 in
    ap (λ o. option_map_or (λ (x : Judged). x.team) o 0) found

-- ---- plans are of their type
module _ (comes_is : ComesIs) (plan : TreePlan) (is : IsTreePlan plan) where
  starts_known : (v : ℕ) → (v < 1 + nodes_in plan.teams) ⊎ (1 + nodes_in plan.teams ≤ v) → (slice_index_or plan.meetings v no_meeting).start < length plan.table.states
  starts_known v (inl l) = is.fits.starts v l
  starts_known v (inr l) =
      let none : slice_index_or plan.meetings v no_meeting ≡ no_meeting = get_or-eq_default plan.meetings no_meeting (omega (arith, is.fits.count)) in
      rw none (omega (arith, is.known.states.some))

  pub of_type : IsOfType (tree_of plan)
  of_type = record {
    starts = λ v. starts_known v (cases_lt v (1 + nodes_in plan.teams));
    operations = λ v p h. (
        let among = (comes_is plan.teams v p).0 h in let a = among.0 in let b = among.1 in
        is.fits.operations v (p - (node_at plan.teams v).first) (node_there plan.teams v p h) (omega arith));
    sights = λ v p h. is.fits.sights v (node_there plan.teams v p h);
  }

  pub uniform : (allowed : Sight → Bool) → HasSights allowed plan → IsUniform allowed (tree_of plan)
  uniform allowed has v = go (cases_lt v (1 + nodes_in plan.teams))
    where
      go : (v < 1 + nodes_in plan.teams) ⊎ (1 + nodes_in plan.teams ≤ v)
          → (sight : Sight) × (allowed sight ≡ true) × ((p : ℕ) → Has (comes_to plan.teams v) p → ((tree_of plan).meeting v).sight p ≡ sight)
      go (inl l) = (sight_of (slice_index_or plan.meetings v no_meeting).sight, has v l, λ p h. refl)
      go (inr l) = (
        sight_of (slice_index_or plan.meetings 0 no_meeting).sight,
        has 0 (omega arith),
        λ p h. absurd (let there = node_there plan.teams v p h in omega arith),
      )
