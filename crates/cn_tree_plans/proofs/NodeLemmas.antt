-- What the processes of a node of a tree are shown, by its teams.
use Rattle.std.proofs.Common.{ℕ, ◌≡◌, ◌≢◌, ◌↔◌, inl, inr, ◌+◌, ◌-◌, ◌<◌, ◌≤◌, List, [], ◌∷◌, length, slice_index, slice_index_or, refl, sym, ◌∙◌, subst, arith, Contains}
use Rattle.std.specs.Prelude.{All}
use Rattle.std.proofs.lemmas.List.Elements.{All-cons, All-nil}
use Rattle.cn_table.specs.TypeTable.{IsTypeTable, TypeTable}
use Rattle.cn_choice.specs.declared.limits.TheConstants.{MOST_PROCESSES}
use Rattle.cn_meetings.specs.Witness.{BeginsIn, Has, IsOrderOf, IsTeamWitness}
use Rattle.cn_trees.specs.Tree.{Teams, comes_to, members, nodes_in, team_in}
use Rattle.cn_trees.specs.Tree.Teams.{Alone, Last, Meet}
use Rattle.cn_tree_costs.specs.Nodes.{Node, node_at}
use Rattle.cn_tree_costs.specs.Sizes.{IsDivision, sizes_of}
use Rattle.cn_tree_costs.proofs.Numbers.{sizes_sum}
use Rattle.cn_tree_plans.specs.Listing.{AreEntries, IsNodeMeeting, SomeShowSame, TeamShows, start_of}
use Rattle.cn_tree_plans.specs.Made.{IsShownTwice}
use Rattle.cn_tree_plans.specs.Plan.{AreMeetings, IsShownBy, NodeMeeting, meeting_in, no_meeting, tree_with}
use Rattle.cn_tree_plans.specs.Teams.{AreProper, AreSeveralBelow}
use Rattle.cn_tree_plans.specs.declared.judged.Judged.{Judged}
use Rattle.cn_tree_plans.proofs.ListingLemmas.{either}
use Rattle.cn_tree_plans.proofs.Outcomes.{Outcomes, Pairs}
use Rattle.cn_tree_plans.proofs.PlanLemmas.{ComesIs, TeamIs, team_inside}
use Rattle.cn_tree_plans.proofs.SizeLemmas.{in_block, start_within}
use Rattle.cn_tree_plans.proofs.TeamLemmas.{proper_at, several_bound, within}
use Rattle.cn_tree_plans.proofs.Turning.{shown_outcomes}

pub inhabited : (s : Teams) → AreSeveralBelow s → All (λ m. 1 ≤ m) (sizes_of s)
inhabited Last h = All-nil (λ m. 1 ≤ m)
inhabited (Alone r) h = All-cons (λ m. 1 ≤ m) 1 (sizes_of r) (omega arith) (inhabited r h)
inhabited (Meet s r) h =
    let b = several_bound s h.1 in let a = h.0 in
    All-cons (λ m. 1 ≤ m) (members s) (sizes_of r) (omega arith) (inhabited r h.2)

module _ (outcomes : Outcomes) (pairs : Pairs) (comes_is : ComesIs) (team_is : TeamIs) (t : TypeTable) (s : Teams) (meetings : List NodeMeeting)
    (known : IsTypeTable t) (proper : AreProper s) (few : members s ≤ MOST_PROCESSES) (fits : AreMeetings t s meetings) (v : ℕ) (lv : v < 1 + nodes_in s) where
  abbrev m : NodeMeeting
  m = slice_index_or meetings v no_meeting

  abbrev x : Node
  x = node_at s v

  abbrev sizes : List ℕ
  sizes = sizes_of (node_at s v).teams

  pub is_meeting : IsNodeMeeting t (slice_index_or meetings v no_meeting)
  is_meeting = record {
    table = known;
    start = fits.starts v lv;
    sight = fits.sights v lv;
    few = omega (arith, fits.sizes v lv, within s v);
    operations = λ k l. fits.operations v k lv (omega (arith, fits.sizes v lv));
  }

  pub is_division : IsDivision (length (slice_index_or meetings v no_meeting).operations) (sizes_of (node_at s v).teams)
  is_division = record {
    whole = sizes_sum x.teams ∙ sym (fits.sizes v lv);
    several = (proper_at s v proper lv).several;
    inhabited = inhabited x.teams (proper_at s v proper lv).below;
  }

  in_team : (g : ℕ) → g < length sizes → (p : ℕ) → Has (comes_to s v) p
      → (team_in s v p ≡ g) ↔ ((start_of sizes g ≤ p - x.first) × (p - x.first < start_of sizes g + slice_index sizes g))
  in_team g lg p h = subst (λ (k : ℕ). (k ≡ g) ↔ ((start_of sizes g ≤ p - x.first) × (p - x.first < start_of sizes g + slice_index sizes g))) (sym (team_is s v p h)) (in_block sizes g (p - x.first) lg)

  pub shown_team : (p g r saw : ℕ) → Has (comes_to s v) p → g < length (sizes_of (node_at s v).teams)
      → IsShownBy (tree_with t s meetings) v p g r saw
      ↔ TeamShows t (slice_index_or meetings v no_meeting) (sizes_of (node_at s v).teams) (p - (node_at s v).first) g r saw
  shown_team p g r saw h lg =
      let both = shown_outcomes outcomes pairs comes_is t s meetings v g (start_of sizes g) (start_of sizes g + slice_index sizes g) (fits.sizes v lv) (omega arith)
      (omega (arith, start_within sizes g lg, is_division.whole)) (in_team g lg) p r saw h in
      (λ shown. both.0 shown, λ shows. both.1 shows)

  -- who is shown something comes to the node, and the team that comes first is one of it
  comes_of : (p g r saw : ℕ) → IsShownBy (tree_with t s meetings) v p g r saw → Has (comes_to s v) p
  comes_of p g r saw shown = shown.1.is_order.members shown.1.answered.0 p shown.1.answered.1

  team_known : (g : ℕ) (order : List ℕ) → IsOrderOf (comes_to s v) order → BeginsIn (team_in s v) g order → g < length sizes
  team_known g [] is b = absurd b
  team_known g (p ∷ order) is b = omega (arith, b, team_inside comes_is team_is s v p (is.members 0 p refl))

  pub entries_exact : (p : ℕ) (judged : List Judged) → Has (comes_to s v) p
      → AreEntries t (slice_index_or meetings v no_meeting) (sizes_of (node_at s v).teams) (p - (node_at s v).first) judged
      → (y : Judged) → Contains judged y ↔ IsShownBy (tree_with t s meetings) v p y.team y.response.0 y.saw
  entries_exact p judged h are y = (
    λ c. (let e = (are.exact y).0 c in (shown_team p y.team y.response.0 y.saw h e.0).1 e.1),
    λ shown. (let l = team_known y.team shown.0 shown.1.is_order shown.2 in (are.exact y).1 (l, (shown_team p y.team y.response.0 y.saw h l).0 shown)),
  )

  pub shown_twice : (k : ℕ) → k < members (node_at s v).teams
      → SomeShowSame t (slice_index_or meetings v no_meeting) (sizes_of (node_at s v).teams) k → IsShownTwice (tree_with t s meetings) v ((node_at s v).first + k)
  shown_twice k lk same =
      let p : ℕ = x.first + k in
      let h = (comes_is s v p).1 (omega arith, omega arith) in
      let e : k ≡ p - x.first = omega arith in
      record {
        team = same.team;
        other = same.other;
        response = same.response;
        saw = same.saw;
        apart = λ z. (let b = same.before in absurd (omega arith));
        shown = (shown_team p same.team same.response same.saw h (let b = same.before in let l = same.known in omega arith)).1
            (subst (λ (j : ℕ). TeamShows t m sizes j same.team same.response same.saw) e same.shows);
        shown_again = (shown_team p same.other same.response same.saw h same.known).1
            (subst (λ (j : ℕ). TeamShows t m sizes j same.other same.response same.saw) e same.shows_too);
      }

  twice_same : (p g h r saw : ℕ) → g ≢ h → IsShownBy (tree_with t s meetings) v p g r saw → IsShownBy (tree_with t s meetings) v p h r saw → SomeShowSame t m sizes (p - x.first)
  twice_same p g h r saw ne a b =
      let comes = comes_of p g r saw a in
      let lg = team_known g a.0 a.1.is_order a.2 in
      let lh = team_known h b.0 b.1.is_order b.2 in
      let ga = (shown_team p g r saw comes lg).0 a in
      let hb = (shown_team p h r saw comes lh).0 b in
      elim (either g h) [
        | inl l ↦ record { team = g; other = h; response = r; saw = saw; before = l; known = lh; shows = ga; shows_too = hb }
        | inr z ↦ elim z [
          | inl e ↦ absurd (ne e)
          | inr l ↦ record { team = h; other = g; response = r; saw = saw; before = l; known = lg; shows = hb; shows_too = ga }
        ]
      ]

  pub not_twice : (p : ℕ) → ((k : ℕ) → (node_at s v).first + k ≡ p → ¬ SomeShowSame t (slice_index_or meetings v no_meeting) (sizes_of (node_at s v).teams) k) → ¬ IsShownTwice (tree_with t s meetings) v p
  not_twice p none twice =
      let among = (comes_is s v p).0 (comes_of p twice.team twice.response twice.saw twice.shown) in
      let u = among.0 in
      none (p - x.first) (omega arith) (twice_same p twice.team twice.other twice.response twice.saw twice.apart twice.shown twice.shown_again)

  pub is_witness : ((k : ℕ) → k < members (node_at s v).teams → ¬ SomeShowSame t (slice_index_or meetings v no_meeting) (sizes_of (node_at s v).teams) k)
      → IsTeamWitness t (meeting_in s meetings v) (comes_to s v) (team_in s v)
  is_witness none g h p r saw alpha beta a b bg bh =
      let comes = comes_of p g r saw (alpha, a, bg) in
      let among = (comes_is s v p).0 comes in
      let u = among.0 in let w = among.1 in
      elim (either g h) [
        | inl l ↦ absurd (none (p - x.first) (omega arith) (twice_same p g h r saw (λ e. absurd (omega arith)) (alpha, a, bg) (beta, b, bh)))
        | inr z ↦ elim z [
          | inl e ↦ e
          | inr l ↦ absurd (none (p - x.first) (omega arith) (twice_same p g h r saw (λ e. absurd (omega arith)) (alpha, a, bg) (beta, b, bh)))
        ]
      ]
