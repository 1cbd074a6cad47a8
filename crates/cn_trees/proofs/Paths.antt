-- Paths of a plan tree.
use Rattle.std.proofs.Common.{ℕ, zero, suc, ◌≡◌, ◌⊎◌, inl, inr, Bool, true, false, ◌+◌, ◌-◌, ◌<◌, ◌≤◌, max, List, [], ◌∷◌, ◌++◌, length, slice_index_or, refl, sym, ap, ◌∙◌, arith, nat_lt, nat_eq, length-append, if◌then◌else◌, ◌||◌, true≢false}
use Rattle.std.proofs.lemmas.Bool.Decides.{nat_tests}
use Rattle.std.proofs.lemmas.List.{get_or_append_left}
use Rattle.cn_trees.specs.Tree.{Place, Teams, members, nodes_in, levels, climb, passes, team_on}
use Rattle.cn_trees.specs.Tree.Teams.{Last, Alone, Meet}

-- place i of a path
abbrev pub stop : List Place → ℕ → Place
stop path i = slice_index_or path i (record { node = 0; team = 0 })

abbrev pub top : ℕ → ℕ → Place
top node team = record { node = node; team = team }

pub stop_push : (path : List Place) (x : Place) (i : ℕ) → i < length (path ++ x ∷ []) → ((i < length path) × (stop (path ++ x ∷ []) i ≡ stop path i)) ⊎ ((i ≡ length path) × (stop (path ++ x ∷ []) i ≡ x))
stop_push [] x zero lt = inr (refl, refl)
stop_push [] x (suc i) lt = absurd (omega arith)
stop_push (y ∷ path) x zero lt = inl (omega arith, refl)
stop_push (y ∷ path) x (suc i) lt = elim (stop_push path x i (omega arith)) [ inl h ↦ inl (let l = h.0 in omega arith, h.1) | inr h ↦ inr (ap suc h.0, h.1) ]

-- the path up to the node of the first teams, and that of a process of the further teams
abbrev pub below : Teams → ℕ → ℕ → List Place
below s next p = climb s next 0 (next + 1) p

abbrev pub beside : Teams → Teams → ℕ → ℕ → ℕ → ℕ → List Place
beside s r node team next p = climb r node (team + 1) (next + 1 + nodes_in s) (p - members s)

-- a process is of the first teams, or of the further ones
pub meet_cases : (P : List Place → Type 0) (s r : Teams) (node team next p : ℕ) → (p < members s → P (below s next p ++ top node team ∷ [])) → (members s ≤ p → P (beside s r node team next p))
    → P (climb (Meet s r) node team next p)
meet_cases P s r node team next p inside outside = go (nat_lt p (members s)) refl
  where
    go : (b : Bool) → nat_lt p (members s) ≡ b → P (if b then below s next p ++ top node team ∷ [] else beside s r node team next p)
    go true e = inside (grind (arith, nat_tests))
    go false e = outside (grind (arith, nat_tests))

-- ---- where the places of a path are
-- place i of this many is the last, at the node itself, in a team from this one on
pub record IsTop (node team places i : ℕ) (x : Place) : Type 0 where
  pub last : i + 1 ≡ places
  pub node_is : x.node ≡ node
  pub team_from : team ≤ x.team

-- or it is one before, at a node below
pub record IsBelow (next bound places i : ℕ) (x : Place) : Type 0 where
  pub early : i + 1 < places
  pub from : next ≤ x.node
  pub under : x.node < bound

abbrev pub AreAt : ℕ → ℕ → ℕ → ℕ → List Place → Type 0
AreAt node team next bound path = (i : ℕ) → i < length path → IsTop node team (length path) i (stop path i) ⊎ IsBelow next bound (length path) i (stop path i)

at_weaker : (node team team' next next' bound bound' : ℕ) (path : List Place) → team' ≤ team → next' ≤ next → bound ≤ bound' → AreAt node team next bound path → AreAt node team' next' bound' path
at_weaker node team team' next next' bound bound' path lt ln lb at i li = elim (at i li) [
  | inl h ↦ inl (record { last = h.last; node_is = h.node_is; team_from = (let f = h.team_from in omega arith) })
  | inr h ↦ inr (record { early = h.early; from = (let f = h.from in omega arith); under = (let u = h.under in omega arith) })
]

at_push : (node team next inner bound : ℕ) (path : List Place) → inner ≤ bound → next < bound → AreAt next 0 (next + 1) inner path → AreAt node team next bound (path ++ top node team ∷ [])
at_push node team next inner bound path le lt at i li = elim (stop_push path (top node team) i li) [
  | inl h ↦ rw (h.1, length-append path (top node team ∷ [])) (inr (deeper (stop path i) h.0 (at i h.0)))
  | inr h ↦ rw (h.1, length-append path (top node team ∷ [])) (inl (record { last = (let e = h.0 in omega arith); node_is = refl; team_from = omega arith }))
]
  where
    deeper : (x : Place) → i < length path → IsTop next 0 (length path) i x ⊎ IsBelow (next + 1) inner (length path) i x → IsBelow next bound (length path + 1) i x
    deeper x l (inl h) = record { early = omega arith; from = (let e = h.node_is in omega arith); under = (let e = h.node_is in omega arith) }
    deeper x l (inr h) = record { early = omega arith; from = (let e = h.from in omega arith); under = (let e = h.under in omega arith) }

pub found : (t : Teams) (node team next p : ℕ) → p < members t → AreAt node team next (next + nodes_in t) (climb t node team next p)
found Last node team next p lp i li = absurd (omega arith)
found (Alone r) node team next zero lp zero li = inl (record { last = refl; node_is = refl; team_from = omega arith })
found (Alone r) node team next zero lp (suc i) li = absurd (omega arith)
found (Alone r) node team next (suc p) lp i li =
    at_weaker node (team + 1) team next next (next + nodes_in r) (next + nodes_in r) (climb r node (team + 1) next p) (omega arith) (omega arith) (omega arith) (found r node (team + 1) next p (omega arith)) i li
found (Meet s r) node team next p lp i li =
    meet_cases (AreAt node team next (next + (1 + nodes_in s + nodes_in r))) s r node team next p
    (λ l. at_push node team next (next + 1 + nodes_in s) (next + (1 + nodes_in s + nodes_in r)) (below s next p) (omega arith) (omega arith) (found s next 0 (next + 1) p l))
    (λ l. at_weaker node (team + 1) team (next + 1 + nodes_in s) next (next + 1 + nodes_in s + nodes_in r) (next + (1 + nodes_in s + nodes_in r)) (beside s r node team next p) (omega arith) (omega arith) (omega arith)
    (found r node (team + 1) (next + 1 + nodes_in s) (p - members s) (omega arith))) i li

-- a process has a place, and its last one is at the node
pub some_place : (t : Teams) (node team next p : ℕ) → p < members t → 0 < length (climb t node team next p)
some_place Last node team next p lp = absurd (omega arith)
some_place (Alone r) node team next zero lp = omega arith
some_place (Alone r) node team next (suc p) lp = some_place r node (team + 1) next p (omega arith)
some_place (Meet s r) node team next p lp =
    meet_cases (λ path. 0 < length path) s r node team next p
    (λ l. omega (arith, length-append (below s next p) (top node team ∷ [])))
    (λ l. some_place r node (team + 1) (next + 1 + nodes_in s) (p - members s) (omega arith))

pub last_at : (t : Teams) (node team next p i : ℕ) → p < members t → i + 1 ≡ length (climb t node team next p) → (stop (climb t node team next p) i).node ≡ node
last_at t node team next p i lp e = elim (found t node team next p lp i (omega arith)) [ inl h ↦ h.node_is | inr h ↦ absurd (let l = h.early in omega arith) ]

-- the nodes of the first teams have numbers from next on
pub from_next : (s : Teams) (next p : ℕ) → p < members s → (i : ℕ) → i < length (below s next p) → (next ≤ (stop (below s next p) i).node) × ((stop (below s next p) i).node < next + 1 + nodes_in s)
from_next s next p lp i li = elim (found s next 0 (next + 1) p lp i li) [
  | inl h ↦ (let e = h.node_is in (omega arith, omega arith))
  | inr h ↦ (let f = h.from in let u = h.under in (omega arith, omega arith))
]

-- ---- a path comes to a node once
abbrev pub IsOnce : List Place → Type 0
IsOnce path = (i j : ℕ) → i < length path → j < length path → (stop path i).node ≡ (stop path j).node → i ≡ j

pub one_visit : (t : Teams) (node team next p : ℕ) → node < next → p < members t → IsOnce (climb t node team next p)
one_visit Last node team next p ln lp i j li lj e = absurd (omega arith)
one_visit (Alone r) node team next zero ln lp i j li lj e = omega arith
one_visit (Alone r) node team next (suc p) ln lp i j li lj e = one_visit r node (team + 1) next p ln (omega arith) i j li lj e
one_visit (Meet s r) node team next p ln lp i j li lj e =
    meet_cases IsOnce s r node team next p
    (λ l. pushed (below s next p) (λ k lk. (from_next s next p l k lk).0) (one_visit s next 0 (next + 1) p (omega arith) l))
    (λ l. one_visit r node (team + 1) (next + 1 + nodes_in s) (p - members s) (omega arith) (omega arith)) i j li lj e
  where
    pushed : (path : List Place) → ((k : ℕ) → k < length path → next ≤ (stop path k).node) → IsOnce path → IsOnce (path ++ top node team ∷ [])
    pushed path from once i j li lj e = elim (stop_push path (top node team) i li) [
      | inl a ↦ elim (stop_push path (top node team) j lj) [
        | inl b ↦ once i j a.0 b.0 (sym (ap (λ (z : Place). z.node) a.1) ∙ e ∙ ap (λ (z : Place). z.node) b.1)
        | inr b ↦ absurd (let f = from i a.0 in let g : (stop path i).node ≡ node = sym (ap (λ (z : Place). z.node) a.1) ∙ e ∙ ap (λ (z : Place). z.node) b.1 in omega arith)
      ]
      | inr a ↦ elim (stop_push path (top node team) j lj) [
        | inl b ↦ absurd (let f = from j b.0 in let g : node ≡ (stop path j).node = sym (ap (λ (z : Place). z.node) a.1) ∙ e ∙ ap (λ (z : Place). z.node) b.1 in omega arith)
        | inr b ↦ a.0 ∙ sym b.0
      ]
    ]

-- ---- what feeds a team
-- place i of one path and place j of another get one value: both are first places of one process, or
-- both are above one node
abbrev pub AreFedAlike : List Place → ℕ → ℕ → List Place → ℕ → ℕ → Type 0
AreFedAlike xs p zero ys q zero = p ≡ q
AreFedAlike xs p (suc i) ys q (suc j) = (stop xs i).node ≡ (stop ys j).node
AreFedAlike xs p zero ys q (suc j) = ⊥
AreFedAlike xs p (suc i) ys q zero = ⊥

-- so do all places of the two paths in one team of a node
abbrev pub Fed : List Place → ℕ → List Place → ℕ → Type 0
Fed xs p ys q = (i j : ℕ) → i < length xs → j < length ys → (stop xs i).node ≡ (stop ys j).node → (stop xs i).team ≡ (stop ys j).team → AreFedAlike xs p i ys q j

fed_map : (xs ys : List Place) (p q p' q' : ℕ) → (p ≡ q → p' ≡ q') → Fed xs p ys q → Fed xs p' ys q'
fed_map xs ys p q p' q' same fed i j li lj e f = go i j (fed i j li lj e f)
  where
    go : (i j : ℕ) → AreFedAlike xs p i ys q j → AreFedAlike xs p' i ys q' j
    go zero zero h = same h
    go (suc i) (suc j) h = h
    go zero (suc j) h = elim h [ ]
    go (suc i) zero h = elim h [ ]

alike_push : (xs ys : List Place) (x y : Place) (p i q j : ℕ) → i < length xs → j < length ys → AreFedAlike xs p i ys q j → AreFedAlike (xs ++ x ∷ []) p i (ys ++ y ∷ []) q j
alike_push xs ys x y p zero q zero lx ly h = h
alike_push xs ys x y p (suc i) q (suc j) lx ly h =
    rw (get_or_append_left xs (x ∷ []) _ i (omega arith), get_or_append_left ys (y ∷ []) _ j (omega arith)) h
alike_push xs ys x y p zero q (suc j) lx ly h = elim h [ ]
alike_push xs ys x y p (suc i) q zero lx ly h = elim h [ ]

-- two processes that have met below come up from one node
alike_top : (s : Teams) (next p q i j : ℕ) (x y : Place) → p < members s → q < members s → i ≡ length (below s next p) → j ≡ length (below s next q)
    → AreFedAlike (below s next p ++ x ∷ []) p i (below s next q ++ y ∷ []) q j
alike_top s next p q zero j x y lp lq ei ej = absurd (let h = some_place s next 0 (next + 1) p lp in omega arith)
alike_top s next p q (suc i) zero x y lp lq ei ej = absurd (let h = some_place s next 0 (next + 1) q lq in omega arith)
alike_top s next p q (suc i) (suc j) x y lp lq ei ej =
    rw (get_or_append_left (below s next p) (x ∷ []) _ i (omega arith), get_or_append_left (below s next q) (y ∷ []) _ j (omega arith))
    (last_at s next 0 (next + 1) p i lp (omega arith) ∙ sym (last_at s next 0 (next + 1) q j lq (omega arith)))

fed_push : (s : Teams) (node team next p q : ℕ) → node < next → p < members s → q < members s → Fed (below s next p) p (below s next q) q → Fed (below s next p ++ top node team ∷ []) p (below s next q ++ top node team ∷ []) q
fed_push s node team next p q ln lp lq fed i j li lj e f = elim (stop_push (below s next p) (top node team) i li) [
  | inl a ↦ elim (stop_push (below s next q) (top node team) j lj) [
    | inl b ↦ alike_push (below s next p) (below s next q) (top node team) (top node team) p i q j a.0 b.0
        (fed i j a.0 b.0 (sym (ap (λ (z : Place). z.node) a.1) ∙ e ∙ ap (λ (z : Place). z.node) b.1) (sym (ap (λ (z : Place). z.team) a.1) ∙ f ∙ ap (λ (z : Place). z.team) b.1))
    | inr b ↦ absurd (let h = (from_next s next p lp i a.0).0 in let g : (stop (below s next p) i).node ≡ node = sym (ap (λ (z : Place). z.node) a.1) ∙ e ∙ ap (λ (z : Place). z.node) b.1 in omega arith)
  ]
  | inr a ↦ elim (stop_push (below s next q) (top node team) j lj) [
    | inl b ↦ absurd (let h = (from_next s next q lq j b.0).0 in let g : node ≡ (stop (below s next q) j).node = sym (ap (λ (z : Place). z.node) a.1) ∙ e ∙ ap (λ (z : Place). z.node) b.1 in omega arith)
    | inr b ↦ alike_top s next p q i j (top node team) (top node team) lp lq a.0 b.0
  ]
]

-- the places of the first team, at a node and below it, are none of those of the further teams
abbrev pub OfFirst : ℕ → ℕ → ℕ → ℕ → Place → Type 0
OfFirst node team next limit x = ((x.node ≡ node) × (x.team ≡ team)) ⊎ ((next ≤ x.node) × (x.node < limit))

pub apart : (node team next bound limit : ℕ) (ys : List Place) (j : ℕ) (x : Place) → node < next → OfFirst node team next limit x → next ≤ limit → AreAt node (team + 1) limit bound ys → j < length ys
    → x.node ≡ (stop ys j).node → x.team ≡ (stop ys j).team → ⊥
apart node team next bound limit ys j x ln first ll at lj e t = go (stop ys j) first (at j lj) e t
  where
    go : (y : Place) → OfFirst node team next limit x → IsTop node (team + 1) (length ys) j y ⊎ IsBelow limit bound (length ys) j y → x.node ≡ y.node → x.team ≡ y.team → ⊥
    go y (inl h) (inl g) e t = let a = h.1 in let b = g.team_from in omega arith
    go y (inl h) (inr g) e t = let a = h.0 in let b = g.from in omega arith
    go y (inr h) (inl g) e t = let a = h.0 in let b = g.node_is in omega arith
    go y (inr h) (inr g) e t = let a = h.1 in let b = g.from in omega arith

pub of_first : (s : Teams) (node team next p i : ℕ) → p < members s → i < length (below s next p ++ top node team ∷ []) → OfFirst node team next (next + 1 + nodes_in s) (stop (below s next p ++ top node team ∷ []) i)
of_first s node team next p i lp li = elim (stop_push (below s next p) (top node team) i li) [
  | inl a ↦ inr (rw a.1 (from_next s next p lp i a.0))
  | inr a ↦ inl (rw a.1 (refl, refl))
]

-- so no process of the first teams meets one of the further teams in its team
pub clash : (s r : Teams) (node team next : ℕ) → node < next → (p q : ℕ) → p < members s → q - members s < members r → (i j : ℕ) → i < length (below s next p ++ top node team ∷ []) → j < length (beside s r node team next q)
    → (stop (below s next p ++ top node team ∷ []) i).node ≡ (stop (beside s r node team next q) j).node → (stop (below s next p ++ top node team ∷ []) i).team ≡ (stop (beside s r node team next q) j).team → ⊥
clash s r node team next ln p q ip lq i j li lj e f =
    apart node team next (next + 1 + nodes_in s + nodes_in r) (next + 1 + nodes_in s) (beside s r node team next q) j (stop (below s next p ++ top node team ∷ []) i) ln (of_first s node team next p i ip li) (omega arith)
    (found r node (team + 1) (next + 1 + nodes_in s) (q - members s) lq) lj e f

-- a team is one process alone, or all its processes come up from one node
pub fed_at : (t : Teams) (node team next p q : ℕ) → node < next → p < members t → q < members t → Fed (climb t node team next p) p (climb t node team next q) q
fed_at Last node team next p q ln lp lq i j li lj e f = absurd (omega arith)
fed_at (Alone r) node team next zero zero ln lp lq zero zero li lj e f = refl
fed_at (Alone r) node team next zero zero ln lp lq (suc i) j li lj e f = absurd (omega arith)
fed_at (Alone r) node team next zero zero ln lp lq zero (suc j) li lj e f = absurd (omega arith)
fed_at (Alone r) node team next zero (suc q) ln lp lq (suc i) j li lj e f = absurd (omega arith)
fed_at (Alone r) node team next (suc p) zero ln lp lq i (suc j) li lj e f = absurd (omega arith)
fed_at (Alone r) node team next zero (suc q) ln lp lq zero j li lj e f =
    absurd (apart node team next (next + nodes_in r) next (climb r node (team + 1) next q) j (top node team) ln (inl (refl, refl)) (omega arith) (found r node (team + 1) next q (omega arith)) lj e f)
fed_at (Alone r) node team next (suc p) zero ln lp lq i zero li lj e f =
    absurd (apart node team next (next + nodes_in r) next (climb r node (team + 1) next p) i (top node team) ln (inl (refl, refl)) (omega arith) (found r node (team + 1) next p (omega arith)) li (sym e) (sym f))
fed_at (Alone r) node team next (suc p) (suc q) ln lp lq i j li lj e f =
    fed_map (climb r node (team + 1) next p) (climb r node (team + 1) next q) p q (suc p) (suc q) (ap suc) (fed_at r node (team + 1) next p q ln (omega arith) (omega arith)) i j li lj e f
fed_at (Meet s r) node team next p q ln lp lq i j li lj e f =
    meet_cases (λ xs. Fed xs p (climb (Meet s r) node team next q) q) s r node team next p
    (λ ip. meet_cases (λ ys. Fed (below s next p ++ top node team ∷ []) p ys q) s r node team next q
    (λ iq. fed_push s node team next p q ln ip iq (fed_at s next 0 (next + 1) p q (omega arith) ip iq))
    (λ oq i j li lj e f. absurd (clash s r node team next ln p q ip (omega arith) i j li lj e f)))
    (λ op. meet_cases (λ ys. Fed (beside s r node team next p) p ys q) s r node team next q
    (λ iq i j li lj e f. absurd (clash s r node team next ln q p iq (omega arith) j i lj li (sym e) (sym f)))
    (λ oq. fed_map (beside s r node team next p) (beside s r node team next q) (p - members s) (q - members s) p q (λ h. omega arith)
    (fed_at r node (team + 1) (next + 1 + nodes_in s) (p - members s) (q - members s) (omega arith) (omega arith) (omega arith)))) i j li lj e f

-- ---- the team of a process at a node, and whether it comes there
-- the first place at a node is the only one
pub team_is : (path : List Place) (i : ℕ) → i < length path → IsOnce path → team_on path (stop path i).node ≡ (stop path i).team
team_is [] i li once = absurd (omega arith)
team_is (x ∷ path) zero li once = let here : nat_eq x.node x.node ≡ true = grind (arith, nat_tests) in rw here refl
team_is (x ∷ path) (suc i) li once = go (nat_eq (stop path i).node x.node) refl (team_is path i (omega arith) (λ j k lj lk e. let h = once (suc j) (suc k) (omega arith) (omega arith) e in omega arith))
  where
    go : (b : Bool) → nat_eq (stop path i).node x.node ≡ b → team_on path (stop path i).node ≡ (stop path i).team → team_on (x ∷ path) (stop path i).node ≡ (stop path i).team
    go true is h = let e : (stop path i).node ≡ x.node = grind (arith, nat_tests) in absurd (let z = once (suc i) 0 (omega arith) (omega arith) e in omega arith)
    go false is h = rw is h

pub passes_at : (path : List Place) (i : ℕ) → i < length path → passes path (stop path i).node ≡ true
passes_at [] i li = absurd (omega arith)
passes_at (x ∷ path) zero li = let here : nat_eq x.node x.node ≡ true = grind (arith, nat_tests) in rw here refl
passes_at (x ∷ path) (suc i) li = go (nat_eq (stop path i).node x.node) (passes_at path i (omega arith))
  where
    go : (b : Bool) → passes path (stop path i).node ≡ true → (b || passes path (stop path i).node) ≡ true
    go true h = refl
    go false h = h

pub place_at : (path : List Place) (node : ℕ) → passes path node ≡ true → (i : ℕ) × (i < length path) × ((stop path i).node ≡ node)
place_at [] node h = absurd (true≢false (sym h))
place_at (x ∷ path) node h = go (nat_eq node x.node) refl h (place_at path node)
  where
    go : (b : Bool) → nat_eq node x.node ≡ b → (b || passes path node) ≡ true → (passes path node ≡ true → (i : ℕ) × (i < length path) × ((stop path i).node ≡ node))
        → (i : ℕ) × (i < length (x ∷ path)) × ((stop (x ∷ path) i).node ≡ node)
    go true is h on = (0, omega arith, grind (arith, nat_tests))
    go false is h on = let at = on h in let l = at.1 in (suc at.0, omega arith, at.2)

-- a path has at most as many places as the tree has levels
pub path_short : (t : Teams) (node team next p : ℕ) → length (climb t node team next p) ≤ levels t
path_short Last node team next p = omega arith
path_short (Alone r) node team next zero = omega arith
path_short (Alone r) node team next (suc p) = let h = path_short r node (team + 1) next p in omega arith
path_short (Meet s r) node team next p =
    meet_cases (λ path. length path ≤ max (1 + levels s) (levels r)) s r node team next p
    (λ l. let h = path_short s next 0 (next + 1) p in omega (arith, length-append (below s next p) (top node team ∷ [])))
    (λ l. let h = path_short r node (team + 1) (next + 1 + nodes_in s) (p - members s) in omega arith)
