-- Which processes come to a node, and in which teams.
use Rattle.std.proofs.Common.{ℕ, zero, suc, ◌≡◌, ◌≢◌, Bool, true, false, ◌+◌, ◌-◌, ◌<◌, ◌≤◌, List, [], ◌∷◌, ◌++◌, length, refl, sym, ap, ◌∙◌, arith, nat_lt, nat_eq, if◌then◌else◌, ◌||◌, ◌&&◌, true≢false, inl, inr}
use Rattle.std.proofs.lemmas.Bool.Decides.{nat_tests}
use Rattle.cn_meetings.specs.Witness.{Has}
use Rattle.cn_trees.specs.Tree.{Place, Teams, climb, comes_to, members, nodes_in, passes, path_in, team_in, team_on}
use Rattle.cn_trees.specs.Tree.Teams.{Alone, Last, Meet}
use Rattle.cn_trees.proofs.Paths.{below, beside, found, from_next, meet_cases, place_at, stop, top}
use Rattle.cn_trees.proofs.Places.{known}
use Rattle.cn_tree_costs.specs.Nodes.{IsAmong, Node, behind, node_at, node_below}
use Rattle.cn_tree_costs.specs.Sizes.{block, sizes_of}
use Rattle.cn_tree_costs.proofs.Numbers.{block_in, block_out}

-- the first node below, or one of the first teams, or one of the further teams
pub meet_nodes : (P : ℕ → Node → Type 0) (s r : Teams) → P zero (record { first = 0; teams = s }) → ((v : ℕ) → v < nodes_in s → P (suc v) (node_below s v))
    → ((v : ℕ) → nodes_in s ≤ v → P (suc v) (behind (members s) (node_below r (v - nodes_in s)))) → (v : ℕ) → P v (node_below (Meet s r) v)
meet_nodes P s r here first further zero = here
meet_nodes P s r here first further (suc v) = go (nat_lt v (nodes_in s)) refl
  where
    go : (b : Bool) → nat_lt v (nodes_in s) ≡ b → P (suc v) (if b then node_below s v else behind (members s) (node_below r (v - nodes_in s)))
    go true e = first v (grind (arith, nat_tests))
    go false e = further v (grind (arith, nat_tests))

pub among_members : (u : Teams) (v p : ℕ) → IsAmong (node_below u v) p → p < members u
among_members Last v p h = let l = h.1 in omega arith
among_members (Alone r) v zero h = omega arith
among_members (Alone r) v (suc p) h = let a = h.0 in let b = h.1 in let i = among_members r v p (omega arith, omega arith) in omega arith
among_members (Meet s r) v p h =
    meet_nodes (λ v x. IsAmong x p → p < members s + members r) s r
    (λ h. let l = h.1 in omega arith)
    (λ v lt h. let i = among_members s v p h in omega arith)
    (λ v le h. let a = h.0 in let b = h.1 in let i = among_members r (v - nodes_in s) (p - members s) (omega arith, omega arith) in omega arith) v h

-- ---- paths that come to a node
passes_append : (xs ys : List Place) (w : ℕ) → passes (xs ++ ys) w ≡ (passes xs w || passes ys w)
passes_append [] ys w = refl
passes_append (x ∷ xs) ys w = go (nat_eq w x.node) (passes_append xs ys w)
  where
    go : (b : Bool) → passes (xs ++ ys) w ≡ (passes xs w || passes ys w) → (b || passes (xs ++ ys) w) ≡ ((b || passes xs w) || passes ys w)
    go true h = refl
    go false h = h

team_inside : (xs ys : List Place) (w : ℕ) → passes xs w ≡ true → team_on (xs ++ ys) w ≡ team_on xs w
team_inside [] ys w h = absurd (true≢false (sym h))
team_inside (x ∷ xs) ys w h = go (nat_eq w x.node) h (team_inside xs ys w)
  where
    go : (b : Bool) → (b || passes xs w) ≡ true → (passes xs w ≡ true → team_on (xs ++ ys) w ≡ team_on xs w) → (if b then x.team else team_on (xs ++ ys) w) ≡ (if b then x.team else team_on xs w)
    go true h on = refl
    go false h on = on h

team_outside : (xs ys : List Place) (w : ℕ) → passes xs w ≡ false → team_on (xs ++ ys) w ≡ team_on ys w
team_outside [] ys w h = refl
team_outside (x ∷ xs) ys w h = go (nat_eq w x.node) h (team_outside xs ys w)
  where
    go : (b : Bool) → (b || passes xs w) ≡ false → (passes xs w ≡ false → team_on (xs ++ ys) w ≡ team_on ys w) → (if b then x.team else team_on (xs ++ ys) w) ≡ team_on ys w
    go true h on = absurd (true≢false h)
    go false h on = on h

not_on : (path : List Place) (w : ℕ) → ((i : ℕ) → i < length path → (stop path i).node ≢ w) → passes path w ≡ false
not_on path w other = go (passes path w) refl
  where
    go : (b : Bool) → passes path w ≡ b → b ≡ false
    go false e = refl
    go true e = absurd (let at = place_at path w e in other at.0 at.1 at.2)

-- the path of a process of the first teams stays between these numbers
before_below : (s : Teams) (next p w : ℕ) → p < members s → w < next → passes (below s next p) w ≡ false
before_below s next p w lp lt = not_on (below s next p) w (λ i li e. let f = (from_next s next p lp i li).0 in absurd (omega arith))

behind_below : (s : Teams) (next p w : ℕ) → p < members s → next + 1 + nodes_in s ≤ w → passes (below s next p) w ≡ false
behind_below s next p w lp le = not_on (below s next p) w (λ i li e. let f = (from_next s next p lp i li).1 in absurd (omega arith))

-- and no path comes to other nodes than its own one and those from next on
before_next : (u : Teams) (node team next p w : ℕ) → p < members u → w ≢ node → w < next → passes (climb u node team next p) w ≡ false
before_next u node team next p w lp ne lt = not_on (climb u node team next p) w (λ i li e. elim (found u node team next p lp i li) [
  | inl h ↦ ne (sym e ∙ h.node_is)
  | inr h ↦ (let f = h.from in absurd (omega arith))
])

-- the node of the teams themselves
pub at_top : (u : Teams) (node team next p : ℕ) → node < next → p < members u
    → (passes (climb u node team next p) node ≡ true) × (team_on (climb u node team next p) node ≡ team + block (sizes_of u) p)
at_top Last node team next p ln lp = absurd (omega arith)
at_top (Alone r) node team next zero ln lp = let here : nat_eq node node ≡ true = grind (arith, nat_tests) in rw here (refl, omega arith)
at_top (Alone r) node team next (suc p) ln lp =
    let h = at_top r node (team + 1) next p ln (omega arith) in
    let d : suc p - 1 ≡ p = omega arith in
    let e : block (1 ∷ sizes_of r) (suc p) ≡ suc (block (sizes_of r) p) = block_out 1 (suc p) (sizes_of r) (omega arith) ∙ ap (λ q. suc (block (sizes_of r) q)) d in
    (h.0, omega (arith, h.1, e))
at_top (Meet s r) node team next p ln lp =
    meet_cases (λ path. (passes path node ≡ true) × (team_on path node ≡ team + block (members s ∷ sizes_of r) p)) s r node team next p
    (λ l. (let out = before_below s next p node l ln in let here : nat_eq node node ≡ true = grind (arith, nat_tests) in (
      passes_append (below s next p) (top node team ∷ []) node ∙ rw (out, here) refl,
      team_outside (below s next p) (top node team ∷ []) node out ∙ rw here (omega (arith, block_in (members s) p (sizes_of r) l)),
    )))
    (λ l. (let h = at_top r node (team + 1) (next + 1 + nodes_in s) (p - members s) (omega arith) (omega arith) in
    (h.0, omega (arith, h.1, block_out (members s) p (sizes_of r) l))))

-- process p, with this path, comes to node w exactly if it is among the processes of x, and is in its
-- team there
record IsThere (path : List Place) (w : ℕ) (x : Node) (p : ℕ) : Type 0 where
  pub ins : passes path w ≡ true → IsAmong x p
  pub outs : IsAmong x p → passes path w ≡ true
  pub team_is : passes path w ≡ true → team_on path w ≡ block (sizes_of x.teams) (p - x.first)

never : (path : List Place) (w : ℕ) (x : Node) (p : ℕ) → passes path w ≡ false → (IsAmong x p → ⊥) → IsThere path w x p
never path w x p out other = record {
  ins = λ h. absurd (true≢false (sym h ∙ out));
  outs = λ h. absurd (other h);
  team_is = λ h. absurd (true≢false (sym h ∙ out));
}

further : (path : List Place) (w : ℕ) (x : Node) (k p q : ℕ) → p ≡ k + q → IsThere path w x q → IsThere path w (behind k x) p
further path w x k p q e there = record {
  ins = λ h. (let i = there.ins h in let a = i.0 in let b = i.1 in (omega arith, omega arith));
  outs = λ h. (let a = h.0 in let b = h.1 in there.outs (omega arith, omega arith));
  team_is = λ h. there.team_is h ∙ ap (block (sizes_of x.teams)) (omega arith);
}

pushed : (xs : List Place) (node team w : ℕ) (x : Node) (p : ℕ) → w ≢ node → IsThere xs w x p → IsThere (xs ++ top node team ∷ []) w x p
pushed xs node team w x p ne there = record {
  ins = λ h. there.ins (sym same ∙ h);
  outs = λ h. same ∙ there.outs h;
  team_is = λ h. (let on = sym same ∙ h in team_inside xs (top node team ∷ []) w on ∙ there.team_is on);
}
  where
    same : passes (xs ++ top node team ∷ []) w ≡ passes xs w
    same = let not_here : nat_eq w node ≡ false = grind (arith, nat_tests) in passes_append xs (top node team ∷ []) w ∙ rw not_here (or_false (passes xs w))
      where
        or_false : (b : Bool) → (b || false) ≡ b
        or_false true = refl
        or_false false = refl

there : (u : Teams) (node team next p v : ℕ) → node < next → p < members u → IsThere (climb u node team next p) (next + v) (node_below u v) p
there Last node team next p v ln lp = absurd (omega arith)
there (Alone r) node team next zero v ln lp =
    never (top node team ∷ []) (next + v) (behind 1 (node_below r v)) 0
    (let not_here : nat_eq (next + v) node ≡ false = grind (arith, nat_tests) in rw not_here refl)
    (λ h. let a = h.0 in absurd (omega arith))
there (Alone r) node team next (suc p) v ln lp =
    further (climb r node (team + 1) next p) (next + v) (node_below r v) 1 (suc p) p (omega arith) (there r node (team + 1) next p v ln (omega arith))
there (Meet s r) node team next p v ln lp =
    meet_cases (λ path. IsThere path (next + v) (node_below (Meet s r) v) p) s r node team next p
    (λ l. meet_nodes (λ v x. IsThere (below s next p ++ top node team ∷ []) (next + v) x p) s r
    (let e : next + zero ≡ next = omega arith in rw e (pushed (below s next p) node team next (record { first = 0; teams = s }) p (λ z. absurd (omega arith)) (own l)))
    (λ v lv. (let e : next + suc v ≡ (next + 1) + v = omega arith in rw e (pushed (below s next p) node team (next + 1 + v) (node_below s v) p (λ z. absurd (omega arith)) (there s next 0 (next + 1) p v (omega arith) l))))
    (λ v le. pushed (below s next p) node team (next + suc v) (behind (members s) (node_below r (v - nodes_in s))) p (λ z. absurd (omega arith))
    (never (below s next p) (next + suc v) (behind (members s) (node_below r (v - nodes_in s))) p (behind_below s next p (next + suc v) l (omega arith)) (λ h. let a = h.0 in absurd (omega arith)))) v)
    (λ l. meet_nodes (λ v x. IsThere (beside s r node team next p) (next + v) x p) s r
    (never (beside s r node team next p) (next + zero) (record { first = 0; teams = s }) p
    (before_next r node (team + 1) (next + 1 + nodes_in s) (p - members s) (next + zero) (omega arith) (λ z. absurd (omega arith)) (omega arith)) (λ h. let a = h.1 in absurd (omega arith)))
    (λ v lv. never (beside s r node team next p) (next + suc v) (node_below s v) p
    (before_next r node (team + 1) (next + 1 + nodes_in s) (p - members s) (next + suc v) (omega arith) (λ z. absurd (omega arith)) (omega arith)) (λ h. let a = among_members s v p h in absurd (omega arith)))
    (λ v le. (let e : next + suc v ≡ (next + 1 + nodes_in s) + (v - nodes_in s) = omega arith in
    rw e (further (beside s r node team next p) (next + 1 + nodes_in s + (v - nodes_in s)) (node_below r (v - nodes_in s)) (members s) p (p - members s) (omega arith)
    (there r node (team + 1) (next + 1 + nodes_in s) (p - members s) (v - nodes_in s) (omega arith) (omega arith))))) v)
  where
    own : p < members s → IsThere (below s next p) next (record { first = 0; teams = s }) p
    own l =
        let h = at_top s next 0 (next + 1) p (omega arith) l in
        record {
          ins = λ on. (omega arith, omega arith);
          outs = λ on. h.0;
          team_is = λ on. h.1 ∙ (let d : p - 0 ≡ p = omega arith in rw d (omega arith));
        }

-- ---- the nodes of a tree
whole_there : (s : Teams) (v p : ℕ) → p < members s → IsThere (path_in s p) v (node_at s v) p
whole_there s zero p lp =
    let h = at_top s 0 0 1 p (omega arith) lp in
    record {
      ins = λ on. (omega arith, omega arith);
      outs = λ on. h.0;
      team_is = λ on. h.1 ∙ (let d : p - 0 ≡ p = omega arith in rw d (omega arith));
    }
whole_there s (suc v) p lp = let e : 1 + v ≡ suc v = omega arith in rw e at (there s 0 0 1 p v (omega arith) lp)

passing : (b c : Bool) → (b && c) ≡ true → c ≡ true
passing false c e = absurd (true≢false (sym e))
passing true c e = e

pub comes_among : (s : Teams) (v p : ℕ) → Has (comes_to s v) p → IsAmong (node_at s v) p
comes_among s v p h = (whole_there s v p (known s v p h)).ins (passing (nat_lt p (members s)) (passes (path_in s p) v) h)

pub among_whole : (s : Teams) (v p : ℕ) → IsAmong (node_at s v) p → p < members s
among_whole s zero p h = let l = h.1 in omega arith
among_whole s (suc v) p h = among_members s v p h

pub among_comes : (s : Teams) (v p : ℕ) → IsAmong (node_at s v) p → Has (comes_to s v) p
among_comes s v p h =
    let l = among_whole s v p h in
    let e : nat_lt p (members s) ≡ true = grind (arith, nat_tests) in
    rw e ((whole_there s v p l).outs h)

pub team_of_node : (s : Teams) (v p : ℕ) → Has (comes_to s v) p → team_in s v p ≡ block (sizes_of (node_at s v).teams) (p - (node_at s v).first)
team_of_node s v p h = (whole_there s v p (known s v p h)).team_is (passing (nat_lt p (members s)) (passes (path_in s p) v) h)
