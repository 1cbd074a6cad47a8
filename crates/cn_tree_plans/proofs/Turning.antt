-- A team of a node against the others, as the two teams of a choice.
use Rattle.std.proofs.Common.{ℕ, ◌≡◌, ◌↔◌, ◌+◌, ◌-◌, ◌<◌, ◌≤◌, Bool, true, false, List, length, drop, take, get_or, slice_index, slice_index_or, nat_lt, refl, sym, ap, ◌∙◌, arith, if◌then◌else◌, length-append, length-drop}
use Rattle.std.proofs.lemmas.Bool.Decides.{nat_tests}
use Rattle.std.proofs.lemmas.List.{get_or-append_right, get_or-drop, get_or-take, get_or_append_left, length-take-le}
use Rattle.cn_table.specs.TypeTable.{TypeTable}
use Rattle.cn_choice.specs.Canonical.{Choice, raw_choice_of}
use Rattle.cn_choice.specs.OutcomeSets.{InOutcomeSet}
use Rattle.cn_choice.specs.declared.team.Team.TheVariants.{A}
use Rattle.cn_meetings.specs.Choices.{choice_processes, choice_team}
use Rattle.cn_meetings.specs.Meeting.{Sight, sees}
use Rattle.cn_meetings.specs.Sights.{sight_of}
use Rattle.cn_meetings.specs.Witness.{Has}
use Rattle.cn_trees.specs.Tree.{Teams, comes_to, members, team_in}
use Rattle.cn_tree_costs.specs.Nodes.{IsAmong, Node, node_at}
use Rattle.cn_tree_plans.specs.Plan.{IsShownBy, NodeMeeting, meeting_in, no_meeting, tree_with}
use Rattle.cn_tree_plans.specs.Turned.{role_of, turned}
use Rattle.cn_tree_plans.proofs.Carrying.{AreRoles, begins_carried, shown_carried}
use Rattle.cn_tree_plans.proofs.Outcomes.{Outcomes, Pairs, into_outcomes, looking, out_of_outcomes}

-- the process of the node with this role
abbrev process_of : ℕ → ℕ → ℕ → ℕ
process_of low high j =
    if nat_lt j (high - low) then low + j else (if nat_lt j high then j - (high - low) else j)

three : (P : ℕ → Type 0) (a b x y z k : ℕ) → (k < a → P x) → (a ≤ k → k < b → P y) → (a ≤ k → b ≤ k → P z)
    → P (if nat_lt k a then x else (if nat_lt k b then y else z))
three P a b x y z k f g h = go (nat_lt k a) refl (nat_lt k b) refl
  where
    go : (c : Bool) → nat_lt k a ≡ c → (d : Bool) → nat_lt k b ≡ d → P (if c then x else (if d then y else z))
    go true e d i = f (grind (arith, nat_tests))
    go false e true i = g (grind (arith, nat_tests)) (grind (arith, nat_tests))
    go false e false i = h (grind (arith, nat_tests)) (grind (arith, nat_tests))

role_first : (low high k : ℕ) → k < low → role_of low high k ≡ (high - low) + k
role_first low high k l = let e : nat_lt k low ≡ true = grind (arith, nat_tests) in rw e refl

role_inside : (low high k : ℕ) → low ≤ k → k < high → role_of low high k ≡ k - low
role_inside low high k l m =
    let e : nat_lt k low ≡ false = grind (arith, nat_tests) in
    let d : nat_lt k high ≡ true = grind (arith, nat_tests) in
    rw (e, d) refl

role_last : (low high k : ℕ) → low ≤ k → high ≤ k → role_of low high k ≡ k
role_last low high k l m =
    let e : nat_lt k low ≡ false = grind (arith, nat_tests) in
    let d : nat_lt k high ≡ false = grind (arith, nat_tests) in
    rw (e, d) refl

process_inside : (low high j : ℕ) → j < high - low → process_of low high j ≡ low + j
process_inside low high j l = let e : nat_lt j (high - low) ≡ true = grind (arith, nat_tests) in rw e refl

process_first : (low high j : ℕ) → high - low ≤ j → j < high → process_of low high j ≡ j - (high - low)
process_first low high j l m =
    let e : nat_lt j (high - low) ≡ false = grind (arith, nat_tests) in
    let d : nat_lt j high ≡ true = grind (arith, nat_tests) in
    rw (e, d) refl

process_last : (low high j : ℕ) → high - low ≤ j → high ≤ j → process_of low high j ≡ j
process_last low high j l m =
    let e : nat_lt j (high - low) ≡ false = grind (arith, nat_tests) in
    let d : nat_lt j high ≡ false = grind (arith, nat_tests) in
    rw (e, d) refl

back : (low high k : ℕ) → low ≤ high → process_of low high (role_of low high k) ≡ k
back low high k le = three (λ j. process_of low high j ≡ k) low high ((high - low) + k) (k - low) k k
    (λ l. process_first low high ((high - low) + k) (omega arith) (omega arith) ∙ omega arith)
    (λ l m. process_inside low high (k - low) (omega arith) ∙ omega arith)
    (λ l m. process_last low high k (omega arith) m)

forth : (low high j : ℕ) → low ≤ high → role_of low high (process_of low high j) ≡ j
forth low high j le = three (λ k. role_of low high k ≡ j) (high - low) high (low + j) (j - (high - low)) j j
    (λ l. role_inside low high (low + j) (omega arith) (omega arith) ∙ omega arith)
    (λ l m. role_first low high (j - (high - low)) (omega arith) ∙ omega arith)
    (λ l m. role_last low high j (omega arith) m)

pub role_below : (n low high k : ℕ) → low ≤ high → high ≤ n → k < n → role_of low high k < n
role_below n low high k le ln lk = three (λ j. j < n) low high ((high - low) + k) (k - low) k k (λ l. omega arith) (λ l m. omega arith) (λ l m. lk)

process_below : (n low high j : ℕ) → low ≤ high → high ≤ n → j < n → process_of low high j < n
process_below n low high j le ln lj = three (λ k. k < n) (high - low) high (low + j) (j - (high - low)) j j (λ l. omega arith) (λ l m. omega arith) (λ l m. lj)

-- ---- operations
module _ (m : NodeMeeting) (low high : ℕ) (le : low ≤ high) (ln : high ≤ length m.operations) where
  c : Choice
  c = turned m low high

  pub length_a : length (turned m low high).a ≡ high - low
  length_a = length-take-le (high - low) (drop low m.operations) (omega (arith, length-drop low m.operations))

  length_low : length (take low m.operations) ≡ low
  length_low = length-take-le low m.operations (omega arith)

  pub length_all : length (turned m low high).a + length (turned m low high).b ≡ length m.operations
  length_all = omega (arith, length_a, length_low, length-append (take low m.operations) (drop high m.operations), length-drop high m.operations)

  pub same_operation : (k : ℕ) → k < length m.operations
      → slice_index (raw_choice_of (turned m low high)).operations (role_of low high k) ≡ slice_index m.operations k
  same_operation k lk = three (λ j. slice_index (raw_choice_of (turned m low high)).operations j ≡ slice_index m.operations k) low high ((high - low) + k) (k - low) k k
      (λ l. (let e : (high - low) + k - (high - low) ≡ k = omega arith in
      get_or-append_right (turned m low high).a (turned m low high).b (high - low) ((high - low) + k) 0 length_a (omega arith)
      ∙ (ap (λ i. get_or (turned m low high).b i 0) e ∙ (get_or_append_left (take low m.operations) (drop high m.operations) 0 k (omega (arith, length_low))
      ∙ get_or-take low m.operations k 0 l))))
      (λ l u. (let e : low + (k - low) ≡ k = omega arith in
      get_or_append_left (turned m low high).a (turned m low high).b 0 (k - low) (omega (arith, length_a))
      ∙ (get_or-take (high - low) (drop low m.operations) (k - low) 0 (omega arith) ∙ (get_or-drop low m.operations (k - low) 0 ∙ ap (λ i. get_or m.operations i 0) e))))
      (λ l u. (let e : high + (k - (high - low) - low) ≡ k = omega arith in
      get_or-append_right (turned m low high).a (turned m low high).b (high - low) k 0 length_a (omega arith)
      ∙ (get_or-append_right (take low m.operations) (drop high m.operations) low (k - (high - low)) 0 length_low (omega arith)
      ∙ (get_or-drop high m.operations (k - (high - low) - low) 0 ∙ ap (λ i. get_or m.operations i 0) e))))

-- ---- what processes are shown
module _ (outcomes : Outcomes) (pairs : Pairs) (comes_is : (s : Teams) (v p : ℕ) → Has (comes_to s v) p ↔ IsAmong (node_at s v) p)
    (t : TypeTable) (s : Teams) (meetings : List NodeMeeting) (v g low high : ℕ) where
  abbrev m : NodeMeeting
  m = slice_index_or meetings v no_meeting

  abbrev x : Node
  x = node_at s v

  abbrev w : Choice
  w = turned (slice_index_or meetings v no_meeting) low high

  abbrev sight : Sight
  sight = sight_of (slice_index_or meetings v no_meeting).sight

  module _ (size : length (slice_index_or meetings v no_meeting).operations ≡ members (node_at s v).teams) (le : low ≤ high) (ln : high ≤ length (slice_index_or meetings v no_meeting).operations)
      (is_team : (p : ℕ) → Has (comes_to s v) p → (team_in s v p ≡ g) ↔ ((low ≤ p - (node_at s v).first) × (p - (node_at s v).first < high))) where
    is_role : (j : ℕ) → j < length m.operations → Has (choice_processes w) j
    is_role j l = let l' : j < length w.a + length w.b = omega (arith, length_all m low high le ln) in grind (arith, nat_tests)

    role_known : (j : ℕ) → Has (choice_processes w) j → j < length m.operations
    role_known j h = let l : j < length w.a + length w.b = grind (arith, nat_tests) in omega (arith, length_all m low high le ln)

    comes : (k : ℕ) → k < length m.operations → Has (comes_to s v) (x.first + k)
    comes k l = (comes_is s v (x.first + k)).1 (omega arith, omega arith)

    there : AreRoles t (looking sight w) (meeting_in s meetings v) (choice_processes w) (comes_to s v) (λ p. role_of low high (p - x.first))
    there = record {
      inside = λ p h. (let a = (comes_is s v p).0 h in let b = a.1 in is_role (role_of low high (p - x.first)) (role_below (length m.operations) low high (p - x.first) le ln (omega arith)));
      apart = λ p q hp hq e. (let a = ((comes_is s v p).0 hp).0 in let b = ((comes_is s v q).0 hq).0 in
          let same : p - x.first ≡ q - x.first = sym (back low high (p - x.first) le) ∙ (ap (process_of low high) e ∙ back low high (q - x.first) le) in omega arith);
      start = refl;
      operation = λ p h. (let a = (comes_is s v p).0 h in let b = a.1 in sym (same_operation m low high le ln (p - x.first) (omega arith)));
      sight = λ p q h. refl;
    }

    home : AreRoles t (meeting_in s meetings v) (looking sight w) (comes_to s v) (choice_processes w) (λ j. x.first + process_of low high j)
    home = record {
      inside = λ j h. comes (process_of low high j) (process_below (length m.operations) low high j le ln (role_known j h));
      apart = λ i j hi hj e. (let same : process_of low high i ≡ process_of low high j = omega arith in sym (forth low high i le) ∙ (ap (role_of low high) same ∙ forth low high j le));
      start = refl;
      operation = λ j h. (let e : x.first + process_of low high j - x.first ≡ process_of low high j = omega arith in
          ap (slice_index (raw_choice_of w).operations) (sym (forth low high j le))
          ∙ (same_operation m low high le ln (process_of low high j) (process_below (length m.operations) low high j le ln (role_known j h)) ∙ ap (slice_index m.operations) (sym e)));
      sight = λ j q h. refl;
    }

    begins_there : (p : ℕ) → Has (comes_to s v) p → team_in s v p ≡ g → choice_team w (role_of low high (p - x.first)) ≡ 0
    begins_there p h e =
        let i = (is_team p h).0 e in
        let a = i.0 in let b = i.1 in
        let l : role_of low high (p - x.first) < length w.a = omega (arith, role_inside low high (p - x.first) a b, length_a m low high le ln) in
        let test : nat_lt (role_of low high (p - x.first)) (length w.a) ≡ true = grind (arith, nat_tests) in
        rw test refl

    begins_home : (j : ℕ) → Has (choice_processes w) j → choice_team w j ≡ 0 → team_in s v (x.first + process_of low high j) ≡ g
    begins_home j h e =
        let l : j < high - low = omega (arith, first (nat_lt j (length w.a)) refl e, length_a m low high le ln) in
        let p : process_of low high j ≡ low + j = process_inside low high j l in
        (is_team (x.first + process_of low high j) (comes (process_of low high j) (process_below (length m.operations) low high j le ln (role_known j h)))).1 (omega arith, omega arith)
      where
        first : (b : Bool) → nat_lt j (length w.a) ≡ b → ◌≡◌ {A = ℕ} (if b then 0 else 1) 0 → j < length w.a
        first true e z = grind (arith, nat_tests)
        first false e z = absurd (omega arith)

    pub shown_outcomes : (p r saw : ℕ) → Has (comes_to s v) p
        → IsShownBy (tree_with t s meetings) v p g r saw
        ↔ ((q : ℕ) × InOutcomeSet t (raw_choice_of (turned (slice_index_or meetings v no_meeting) low high)) A (role_of low high (p - (node_at s v).first)) (r, q)
        × (sees t (sight_of (slice_index_or meetings v no_meeting).sight) q ≡ saw))
    shown_outcomes p r saw h = (
      λ shown. into_outcomes outcomes t w sight _ (role_of low high (p - x.first)) r saw
          (shown_carried t (looking sight w) (meeting_in s meetings v) (choice_processes w) (comes_to s v) (λ p. role_of low high (p - x.first)) there shown.0 p r saw shown.1)
          (begins_carried t (looking sight w) (meeting_in s meetings v) (choice_processes w) (comes_to s v) (λ p. role_of low high (p - x.first)) there (team_in s v) (choice_team w) g 0 shown.0 shown.1.is_order begins_there shown.2),
      λ seen. (let out = out_of_outcomes pairs t w sight (role_of low high (p - x.first)) r seen.0 seen.1 in
          let a = ((comes_is s v p).0 h).0 in
          let e : x.first + process_of low high (role_of low high (p - x.first)) ≡ p = omega (arith, back low high (p - x.first) le) in (
            _,
            rw (e, seen.2) at (shown_carried t (meeting_in s meetings v) (looking sight w) (comes_to s v) (choice_processes w) (λ j. x.first + process_of low high j) home out.0 (role_of low high (p - x.first)) r _ out.1),
            begins_carried t (meeting_in s meetings v) (looking sight w) (comes_to s v) (choice_processes w) (λ j. x.first + process_of low high j) home (choice_team w) (team_in s v) 0 g out.0 out.1.is_order (λ j hj e. begins_home j hj e) out.2,
          )),
    )
