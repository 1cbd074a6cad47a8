-- Meetings of the nodes below teams: how many there are, what each of them is, and their steps.
use Rattle.std.proofs.Common.{ℕ, zero, suc, ◌≡◌, ◌+◌, ◌-◌, ◌*◌, ◌<◌, ◌≤◌, inl, inr, Bool, true, false, List, ◌∷◌, ◌++◌, length, length-append, sym, ap, ◌∙◌, subst, arith, nat_lt}
use Rattle.std.specs.Prelude.{slice_index_or}
use Rattle.std.proofs.Math.ListN.{get_or-append}
use Rattle.std.proofs.lemmas.Bool.{cases_lt}
use Rattle.std.proofs.lemmas.Bool.Decides.{nat_tests}
use Rattle.std.proofs.lemmas.List.{get_or-append-add}
use Rattle.cn_meetings.specs.Meeting.{Sight}
use Rattle.cn_table.specs.TypeTable.{TypeTable}
use Rattle.cn_trees.specs.Tree.{Teams, members, nodes_in}
use Rattle.cn_trees.specs.Tree.Teams.{Alone, Last, Meet}
use Rattle.cn_tree_costs.specs.Cost.{total}
use Rattle.cn_tree_costs.specs.Nodes.{node_below}
use Rattle.cn_tree_costs.specs.Sizes.{sizes_of}
use Rattle.cn_tree_plans.specs.Plan.{NodeMeeting, no_meeting}
use Rattle.cn_tree_plans.specs.Teams.{AreSeveralBelow}
use Rattle.cn_shortest.specs.Nodes.{AreNodes, IsNode, price_in}
use Rattle.cn_tree_costs.proofs.Steps.{total_under, under, under_first, under_later}
use Rattle.cn_tree_costs.proofs.Numbers.{total_first}

abbrev pub at : List NodeMeeting → ℕ → NodeMeeting
at meetings v = slice_index_or meetings v no_meeting

module _ (t : TypeTable) (allowed : Sight → Bool) where
  pub nodes_long : (b : ℕ) (s : Teams) (ms : List NodeMeeting) (steps : ℕ) → AreNodes t allowed b s ms steps → length ms ≡ nodes_in s
  nodes_long b Last ms steps are = ap length are.0
  nodes_long b (Alone r) ms steps are = nodes_long b r ms steps are
  nodes_long b (Meet s r) ms steps (m, xs, ys, x, y, split, sum_is, node, within, first, rest) =
      omega (arith, ap length split, length-append xs ys, nodes_long (b - price_in m) s xs x first, nodes_long b r ys y rest)

  pub several_below : (b : ℕ) (s : Teams) (ms : List NodeMeeting) (steps : ℕ) → AreNodes t allowed b s ms steps → AreSeveralBelow s
  several_below b Last ms steps are = tt
  several_below b (Alone r) ms steps are = several_below b r ms steps are
  several_below b (Meet s r) ms steps (m, xs, ys, x, y, split, sum_is, node, within, first, rest) =
      (node.several, several_below (b - price_in m) s xs x first, several_below b r ys y rest)

  -- the meeting of a node with the teams of the node
  pub node_is : (b : ℕ) (s : Teams) (ms : List NodeMeeting) (steps : ℕ) → AreNodes t allowed b s ms steps → (v : ℕ) → v < nodes_in s → IsNode t allowed (sizes_of (node_below s v).teams) (at ms v)
  node_is b Last ms steps are v l = absurd (omega arith)
  node_is b (Alone r) ms steps are v l = node_is b r ms steps are v l
  node_is b (Meet s r) ms steps (m, xs, ys, x, y, split, sum_is, node, within, first, rest) zero l = subst (λ ms. IsNode t allowed (sizes_of s) (at ms 0)) (sym split) node
  node_is b (Meet s r) ms steps (m, xs, ys, x, y, split, sum_is, node, within, first, rest) (suc v) l =
      let long = nodes_long (b - price_in m) s xs x first in
      subst (λ ms. IsNode t allowed (sizes_of (node_below (Meet s r) (suc v)).teams) (at ms (suc v))) (sym split) (elim (cases_lt v (nodes_in s)) [
        | inl u ↦ (
            let test : nat_lt v (nodes_in s) ≡ true = grind (arith, nat_tests) in
            let here : at (xs ++ ys) v ≡ at xs v = get_or-append xs ys no_meeting v (omega (arith, long)) in
            rw (test, here) (node_is (b - price_in m) s xs x first v u)
            )
        | inr u ↦ (
            let test : nat_lt v (nodes_in s) ≡ false = grind (arith, nat_tests) in
            let w : length xs + (v - nodes_in s) ≡ v = omega (arith, long) in
            let here : at (xs ++ ys) v ≡ at ys (v - nodes_in s) = ap (at (xs ++ ys)) (sym w) ∙ get_or-append-add xs ys (v - nodes_in s) no_meeting in
            rw (test, here) (node_is b r ys y rest (v - nodes_in s) (omega arith))
            )
      ])

  -- ---- the steps of the processes at these nodes, the first of which has this number
  module _ (prices : ℕ → ℕ) where
    abbrev pub Priced : ℕ → Teams → List NodeMeeting → Type 0
    Priced next s ms = (v : ℕ) → v < nodes_in s → prices (next + v) ≡ price_in (at ms v)

    module _ (next : ℕ) (s r : Teams) (ms : List NodeMeeting) (m : NodeMeeting) (xs ys : List NodeMeeting) (split : ms ≡ m ∷ (xs ++ ys)) (long : length xs ≡ nodes_in s) (is : Priced next (Meet s r) ms) where
      price_here : (v k : ℕ) → v < nodes_in (Meet s r) → next + v ≡ k → prices k ≡ price_in (at (m ∷ (xs ++ ys)) v)
      price_here v k l e = ap prices (sym e) ∙ (is v l ∙ ap (λ l. price_in (at l v)) split)

      own : prices next ≡ price_in m
      own = price_here 0 next (omega arith) (omega arith)

      first_priced : Priced (next + 1) s xs
      first_priced v l = price_here (suc v) (next + 1 + v) (omega arith) (omega arith) ∙ ap price_in (get_or-append xs ys no_meeting v (omega arith))

      rest_priced : Priced (next + 1 + nodes_in s) r ys
      rest_priced v l = price_here (suc (length xs + v)) (next + 1 + nodes_in s + v) (omega arith) (omega arith) ∙ ap price_in (get_or-append-add xs ys v no_meeting)

    pub steps_within : (b next : ℕ) (s : Teams) (ms : List NodeMeeting) (steps : ℕ) → AreNodes t allowed b s ms steps → Priced next s ms → (p : ℕ) → p < members s → under prices s next p ≤ b
    steps_within b next Last ms steps are is p l = omega arith
    steps_within b next (Alone r) ms steps are is zero l = omega arith
    steps_within b next (Alone r) ms steps are is (suc p) l = steps_within b next r ms steps are is p (omega arith)
    steps_within b next (Meet s r) ms steps (m, xs, ys, x, y, split, sum_is, node, within, first, rest) is p l =
        let long = nodes_long (b - price_in m) s xs x first in
        elim (cases_lt p (members s)) [
          | inl u ↦ omega (
            arith,
            under_first prices s r next p u,
            own next s r ms m xs ys split long is,
            steps_within (b - price_in m) (next + 1) s xs x first (first_priced next s r ms m xs ys split long is) p u,
          )
          | inr u ↦ (
              let q : members s + (p - members s) ≡ p = omega arith in
              omega (
                arith,
                ap (under prices (Meet s r) next) q,
                under_later prices s r next (p - members s),
                steps_within b (next + 1 + nodes_in s) r ys y rest (rest_priced next s r ms m xs ys split long is) (p - members s) (omega arith),
              )
              )
        ]

    pub steps_sum : (b next : ℕ) (s : Teams) (ms : List NodeMeeting) (steps : ℕ) → AreNodes t allowed b s ms steps → Priced next s ms → total (under prices s next) (members s) ≡ steps
    steps_sum b next Last ms steps are is = sym are.1
    steps_sum b next (Alone r) ms steps are is =
        let e : 1 + members r ≡ suc (members r) = omega arith in
        omega (arith, ap (total (under prices (Alone r) next)) e, total_first (under prices (Alone r) next) (members r), steps_sum b next r ms steps are is)
    steps_sum b next (Meet s r) ms steps (m, xs, ys, x, y, split, sum_is, node, within, first, rest) is =
        let long = nodes_long (b - price_in m) s xs x first in
        omega (
          arith,
          total_under prices s r next,
          steps_sum (b - price_in m) (next + 1) s xs x first (first_priced next s r ms m xs ys split long is),
          steps_sum b (next + 1 + nodes_in s) r ys y rest (rest_priced next s r ms m xs ys split long is),
          ap (λ k. members s * k) (own next s r ms m xs ys split long is),
        )
