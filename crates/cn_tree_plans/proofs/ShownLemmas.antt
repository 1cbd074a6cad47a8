-- What the teams of a node show its processes, team by team.
use Rattle.std.proofs.Common.{ℕ, ◌≡◌, ◌↔◌, ◌⊎◌, inl, inr, ◌+◌, ◌-◌, ◌<◌, ◌≤◌, List, [], ◌∷◌, ◌++◌, drop, take, length, slice_index, slice_index_or, refl, sym, ap, ◌∙◌, subst, arith, append_assoc, length-append, length-drop}
use Rattle.std.specs.Prelude.{All}
use Rattle.std.proofs.Math.Seq.{get_or-append_seam}
use Rattle.std.proofs.lemmas.Bool.{cases_lt}
use Rattle.std.proofs.lemmas.List.{get_or-drop, get_or_append_left, take_more, take_rest}
use Rattle.std.proofs.lemmas.List.Elements.{All-append, All-drop, All-from_get_or, All-take}
use Rattle.cn_table.specs.TypeTable.{TypeTable}
use Rattle.cn_choice.specs.Canonical.{Choice, FitsTable, raw_choice_of}
use Rattle.cn_choice.specs.OutcomeSets.{InOutcomeSet}
use Rattle.cn_choice.specs.declared.team.Team.TheVariants.{A}
use Rattle.cn_choice.proofs.ChoiceLemmas.CanonicalForms.{IsRawChoice-choice}
use Rattle.cn_meetings.specs.Meeting.{sees}
use Rattle.cn_meetings.specs.Sights.{sight_of}
use Rattle.cn_meetings.specs.declared.sight.Sight.{Sight}
use Rattle.cn_outcomes.specs.PairSets.{Has}
use Rattle.cn_proto.proofs.Reachable.{pair_known}
use Rattle.cn_tree_plans.specs.Listing.{AreEntries, AreShown, IsNodeMeeting, Shows, TeamShows, start_of}
use Rattle.cn_tree_plans.specs.Made.{AreLists, AreNodeLists}
use Rattle.cn_tree_plans.specs.Plan.{NodeMeeting, no_meeting}
use Rattle.cn_tree_plans.specs.Turned.{role_of, turned}
use Rattle.cn_tree_plans.specs.declared.judged.Judged.{Judged}
use Rattle.cn_tree_plans.proofs.Turning.{length_a, length_all, role_below}
use Rattle.cn_trees.specs.Tree.{Teams}
use Rattle.cn_tree_costs.specs.Nodes.{node_at}
use Rattle.cn_tree_costs.specs.Sizes.{sizes_of}

module _ (t : TypeTable) (m : NodeMeeting) (is : IsNodeMeeting t m) (low high : ℕ) (some : low < high) (within : high ≤ length m.operations) (others : high < low + length m.operations) where
  known : All (λ o. o < length t.operations) m.operations
  known = All-from_get_or (λ o. o < length t.operations) m.operations 0 is.operations

  le : low ≤ high
  le = omega arith

  pub fits_table : FitsTable t (turned m low high)
  fits_table = record {
    fits = IsRawChoice-choice t (length (turned m low high).a + length (turned m low high).b) (turned m low high) (record {
      known_state = is.start;
      a_known = All-take (λ o. o < length t.operations) (high - low) (drop low m.operations) (All-drop (λ o. o < length t.operations) low m.operations known);
      b_known = All-append (λ o. o < length t.operations) (take low m.operations) (drop high m.operations)
          (All-take (λ o. o < length t.operations) low m.operations known) (All-drop (λ o. o < length t.operations) high m.operations known);
      someone_in_a = omega (arith, length_a m low high le within);
      someone_in_b = omega (arith, length_a m low high le within, length_all m low high le within);
      all = refl;
    });
    some = omega (arith, length_all m low high le within);
    few = omega (arith, length_all m low high le within, is.few);
  }

  pub role_inside : (k : ℕ) → k < length m.operations → role_of low high k < length (turned m low high).a + length (turned m low high).b
  role_inside k lk = omega (arith, length_all m low high le within, role_below (length m.operations) low high k le within lk)

  pub outcome_known : (k r q : ℕ) → InOutcomeSet t (raw_choice_of (turned m low high)) A (role_of low high k) (r, q) → (r < length t.responses) × (q < length t.states)
  outcome_known k r q h = pair_known t is.table (raw_choice_of (turned m low high)) A (role_of low high k) (r, q) is.start h

-- what a process sees of the pairs of a set
pub shows_seen : (t : TypeTable) (m : NodeMeeting) (low high k : ℕ) (sight : Sight) (set seen : List ℕ) → sight ≡ m.sight
    → ((r q : ℕ) → Has set r q ↔ InOutcomeSet t (raw_choice_of (turned m low high)) A (role_of low high k) (r, q))
    → ((r saw : ℕ) → Has seen r saw ↔ ((q : ℕ) × Has set r q × (sees t (sight_of sight) q ≡ saw)))
    → (r saw : ℕ) → Has seen r saw ↔ Shows t m low high k r saw
shows_seen t m low high k sight set seen e same by r saw =
    let sees_same : (q : ℕ) → sees t (sight_of sight) q ≡ sees t (sight_of m.sight) q = λ q. ap (λ (s : Sight). sees t (sight_of s) q) e in (
      λ h. (let p = (by r saw).0 h in (p.0, (same r p.0).0 p.1, sym (sees_same p.0) ∙ p.2)),
      λ h. (by r saw).1 (h.0, (same r h.0).1 h.1, sees_same h.0 ∙ h.2),
    )

-- ---- the pairs with one state more
pub seen_next : (set old new : List ℕ) (f : ℕ → ℕ) (state saw : ℕ) → saw ≡ f state
    → ((r x : ℕ) → Has old r x ↔ ((q : ℕ) × (q < state) × Has set r q × (f q ≡ x)))
    → ((r x : ℕ) → Has new r x ↔ (Has old r x ⊎ (Has set r state × (x ≡ saw))))
    → (r x : ℕ) → Has new r x ↔ ((q : ℕ) × (q < state + 1) × Has set r q × (f q ≡ x))
seen_next set old new f state saw e before next r x = (
  λ h. elim ((next r x).0 h) [
    | inl o ↦ (let b = (before r x).0 o in let l = b.1 in (b.0, omega arith, b.2, b.3))
    | inr n ↦ (state, omega arith, n.0, sym (n.1 ∙ e))
  ],
  λ h. elim (cases_lt h.0 state) [
    | inl l ↦ (next r x).1 (inl ((before r x).1 (h.0, l, h.2, h.3)))
    | inr l ↦ (let u = h.1 in let s : h.0 ≡ state = omega arith in
        (next r x).1 (inr (subst (Has set r) s h.2, sym h.3 ∙ (ap f s ∙ sym e))))
  ],
)

-- ---- one more set, list or node
last : {X : Type 0} (xs : List X) (x d : X) (k : ℕ) → k ≡ length xs → slice_index_or (xs ++ x ∷ []) k d ≡ x
last xs x d k e = ap (λ j. slice_index_or (xs ++ x ∷ []) j d) e ∙ get_or-append_seam xs x [] d

pub shown_push : (t : TypeTable) (m : NodeMeeting) (sizes : List ℕ) (k teams low high : ℕ) (sets : List (List ℕ)) (set : List ℕ) → AreShown t m sizes k teams sets
    → low ≡ start_of sizes teams → high ≡ low + slice_index sizes teams
    → ((r saw : ℕ) → Has set r saw ↔ Shows t m low high k r saw) → AreShown t m sizes k (teams + 1) (sets ++ set ∷ [])
shown_push t m sizes k teams low high sets set are el eh next = record {
  count = omega (arith, length-append sets (set ∷ []), are.count);
  exact = λ g r saw l. at g (cases_lt g teams) l r saw;
}
  where
    here : (r saw : ℕ) → Has set r saw ↔ TeamShows t m sizes k teams r saw
    here r saw = rw (eh, el) at (next r saw)

    at : (g : ℕ) → (g < teams) ⊎ (teams ≤ g) → g < teams + 1 → (r saw : ℕ) → Has (slice_index_or (sets ++ set ∷ []) g []) r saw ↔ TeamShows t m sizes k g r saw
    at g (inl l) u r saw = rw (get_or_append_left sets (set ∷ []) [] g (omega (arith, are.count))) (are.exact g r saw l)
    at g (inr l) u r saw =
        let e : g ≡ teams = omega arith in
        rw (last sets set [] g (e ∙ sym are.count), e) (here r saw)

pub lists_push : (t : TypeTable) (m : NodeMeeting) (sizes : List ℕ) (n : ℕ) (lists : List (List Judged)) (list : List Judged) → AreLists t m sizes n lists
    → AreEntries t m sizes n list → AreLists t m sizes (n + 1) (lists ++ list ∷ [])
lists_push t m sizes n lists list are next = record {
  count = omega (arith, length-append lists (list ∷ []), are.count);
  each = λ k l. at k (cases_lt k n) l;
}
  where
    at : (k : ℕ) → (k < n) ⊎ (n ≤ k) → k < n + 1 → AreEntries t m sizes k (slice_index_or (lists ++ list ∷ []) k [])
    at k (inl l) u = rw (get_or_append_left lists (list ∷ []) [] k (omega (arith, are.count))) (are.each k l)
    at k (inr l) u =
        let e : k ≡ n = omega arith in
        rw (last lists list [] k (e ∙ sym are.count), e) next

pub nodes_push : (t : TypeTable) (s : Teams) (meetings : List NodeMeeting) (n : ℕ) (judged : List (List (List Judged))) (lists : List (List Judged)) → AreNodeLists t s meetings n judged
    → AreLists t (slice_index_or meetings n no_meeting) (sizes_of (node_at s n).teams) (length (slice_index_or meetings n no_meeting).operations) lists
    → AreNodeLists t s meetings (n + 1) (judged ++ lists ∷ [])
nodes_push t s meetings n judged lists are next = record {
  count = omega (arith, length-append judged (lists ∷ []), are.count);
  each = λ v l. at v (cases_lt v n) l;
}
  where
    at : (v : ℕ) → (v < n) ⊎ (n ≤ v) → v < n + 1 → AreLists t (slice_index_or meetings v no_meeting) (sizes_of (node_at s v).teams) (length (slice_index_or meetings v no_meeting).operations) (slice_index_or (judged ++ lists ∷ []) v [])
    at v (inl l) u = rw (get_or_append_left judged (lists ∷ []) [] v (omega (arith, are.count))) (are.each v l)
    at v (inr l) u =
        let e : v ≡ n = omega arith in
        rw (last judged lists [] v (e ∙ sym are.count), e) next

-- ---- the operations of a team
pub pushed : (old new ops : List ℕ) (x from k : ℕ) → from ≤ k → k < length ops → x ≡ slice_index ops k → new ≡ (old ++ take (k - from) (drop from ops)) ++ x ∷ []
    → new ≡ old ++ take (k + 1 - from) (drop from ops)
pushed old new ops x from k le lk ex e =
    let next : k + 1 - from ≡ (k - from) + 1 = omega arith in
    let here : from + (k - from) ≡ k = omega arith in
    let more : take ((k - from) + 1) (drop from ops) ≡ take (k - from) (drop from ops) ++ slice_index ops k ∷ [] =
    take_more (drop from ops) (k - from) 0 (omega (arith, length-drop from ops))
    ∙ ap (λ (y : ℕ). take (k - from) (drop from ops) ++ y ∷ []) (get_or-drop from ops (k - from) 0 ∙ ap (slice_index ops) here) in
    e ∙ (append_assoc old (take (k - from) (drop from ops)) (x ∷ [])
    ∙ (ap (λ (y : ℕ). old ++ (take (k - from) (drop from ops) ++ y ∷ [])) ex
    ∙ (ap (λ (ys : List ℕ). old ++ ys) (sym more) ∙ ap (λ n. old ++ take n (drop from ops)) (sym next))))

abbrev choice_of : ℕ → List ℕ → List ℕ → Choice
choice_of state a b = record { state = state; a = a; b = b }

pub turned_is : (m : NodeMeeting) (state low high n : ℕ) (a b c : List ℕ) → state ≡ m.start → n ≡ length m.operations
    → a ≡ [] ++ take (high - low) (drop low m.operations) → b ≡ [] ++ take (low - 0) (drop 0 m.operations) → c ≡ b ++ take (n - high) (drop high m.operations)
    → choice_of state a c ≡ turned m low high
turned_is m state low high n a b c es en ea eb ec =
    let first : low - 0 ≡ low = omega arith in
    let all : c ≡ take low m.operations ++ drop high m.operations =
    ec ∙ (ap (λ (ys : List ℕ). ys ++ take (n - high) (drop high m.operations)) (eb ∙ ap (λ k. take k m.operations) first)
    ∙ ap (λ (ys : List ℕ). take low m.operations ++ ys) (ap (λ k. take (k - high) (drop high m.operations)) en ∙ take_rest m.operations high)) in
    ap (λ (s : ℕ). choice_of s a c) es ∙ (ap (λ (xs : List ℕ). choice_of m.start xs c) ea ∙ ap (choice_of m.start (take (high - low) (drop low m.operations))) all)
