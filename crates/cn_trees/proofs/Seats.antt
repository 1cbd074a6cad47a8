-- Seats of processes in their teams.
use Rattle.std.proofs.Common.{ℕ, zero, suc, ◌≡◌, ◌≢◌, inl, inr, Bool, true, false, ◌+◌, ◌-◌, ◌<◌, ◌≤◌, List, [], ◌∷◌, ◌++◌, length, refl, sym, ap, ◌∙◌, arith, nat_lt, nat_eq, if◌then◌else◌}
use Rattle.std.proofs.lemmas.Bool.Decides.{nat_tests}
use Rattle.cn_trees.specs.Seats.{Fits, seat}
use Rattle.cn_trees.specs.Tree.{Place, Teams, climb, members, nodes_in}
use Rattle.cn_trees.specs.Tree.Teams.{Alone, Last, Meet}
use Rattle.cn_trees.proofs.Paths.{apart, below, beside, clash, found, from_next, stop, stop_push, top}

-- a process of the first teams, or of the further ones, with its path and its seats
meet_seats : (P : List Place → (ℕ → ℕ) → Type 0) (s r : Teams) (node team next p : ℕ)
    → (p < members s → P (below s next p ++ top node team ∷ []) (λ v. if nat_eq v node then p else seat s next (next + 1) p v))
    → (members s ≤ p → P (beside s r node team next p) (seat r node (next + 1 + nodes_in s) (p - members s)))
    → P (climb (Meet s r) node team next p) (seat (Meet s r) node next p)
meet_seats P s r node team next p inside outside = go (nat_lt p (members s)) refl
  where
    go : (b : Bool) → nat_lt p (members s) ≡ b
        → P (if b then below s next p ++ top node team ∷ [] else beside s r node team next p)
        (λ v. if b then (if nat_eq v node then p else seat s next (next + 1) p v) else seat r node (next + 1 + nodes_in s) (p - members s) v)
    go true e = inside (grind (arith, nat_tests))
    go false e = outside (grind (arith, nat_tests))

at_node : (node x y v : ℕ) → v ≡ node → (if nat_eq v node then x else y) ≡ x
at_node node x y v e = let h : nat_eq v node ≡ true = grind (arith, nat_tests) in rw h refl

not_at : (node x y v : ℕ) → v ≢ node → (if nat_eq v node then x else y) ≡ y
not_at node x y v ne = let h : nat_eq v node ≡ false = grind (arith, nat_tests) in rw h refl

-- ---- each team has room for its seats
abbrev pub AreSeated : (ℕ → ℕ) → List Place → (ℕ → ℕ) → Type 0
AreSeated room path seats = (i : ℕ) → i < length path → seats (stop path i).node < room (stop path i).team

pub seated : (room : ℕ → ℕ) (t : Teams) (node team next p : ℕ) → node < next → Fits room team t → p < members t → AreSeated room (climb t node team next p) (seat t node next p)
seated room Last node team next p ln fits lp i li = absurd (omega arith)
seated room (Alone r) node team next zero ln fits lp zero li = let f = fits.0 in omega arith
seated room (Alone r) node team next zero ln fits lp (suc i) li = absurd (omega arith)
seated room (Alone r) node team next (suc p) ln fits lp i li = seated room r node (team + 1) next p ln fits.1 (omega arith) i li
seated room (Meet s r) node team next p ln fits lp i li =
    meet_seats (AreSeated room) s r node team next p
    (λ l. pushed l (seated room s next 0 (next + 1) p (omega arith) fits.1 l))
    (λ l. seated room r node (team + 1) (next + 1 + nodes_in s) (p - members s) (omega arith) fits.2 (omega arith)) i li
  where
    pushed : p < members s → AreSeated room (below s next p) (seat s next (next + 1) p) → AreSeated room (below s next p ++ top node team ∷ []) (λ v. if nat_eq v node then p else seat s next (next + 1) p v)
    pushed l inner i li = elim (stop_push (below s next p) (top node team) i li) [
      | inl h ↦ (let f = (from_next s next p l i h.0).0 in rw (h.1, not_at node p (seat s next (next + 1) p (stop (below s next p) i).node) (stop (below s next p) i).node (λ e. absurd (omega arith))) (inner i h.0))
      | inr h ↦ rw (h.1, at_node node p (seat s next (next + 1) p node) node refl) (let f = fits.0 in omega arith)
    ]

-- ---- two processes of one team have different seats
abbrev pub HaveSeats : List Place → (ℕ → ℕ) → ℕ → List Place → (ℕ → ℕ) → ℕ → Type 0
HaveSeats xs f p ys g q = (i j : ℕ) → i < length xs → j < length ys → (stop xs i).node ≡ (stop ys j).node → (stop xs i).team ≡ (stop ys j).team
    → f (stop xs i).node ≡ g (stop ys j).node → p ≡ q

seats_push : (s : Teams) (node team next p q : ℕ) → node < next → p < members s → q < members s
    → HaveSeats (below s next p) (seat s next (next + 1) p) p (below s next q) (seat s next (next + 1) q) q
    → HaveSeats (below s next p ++ top node team ∷ []) (λ v. if nat_eq v node then p else seat s next (next + 1) p v) p (below s next q ++ top node team ∷ []) (λ v. if nat_eq v node then q else seat s next (next + 1) q v) q
seats_push s node team next p q ln lp lq inner i j li lj e f h = elim (stop_push (below s next p) (top node team) i li) [
  | inl a ↦ elim (stop_push (below s next q) (top node team) j lj) [
    | inl b ↦ (let from_p = (from_next s next p lp i a.0).0 in let from_q = (from_next s next q lq j b.0).0 in
        let h' : (if nat_eq (stop (below s next p) i).node node then p else seat s next (next + 1) p (stop (below s next p) i).node) ≡ (if nat_eq (stop (below s next q) j).node node then q else seat s next (next + 1) q (stop (below s next q) j).node) = rw (a.1, b.1) at h in
        inner i j a.0 b.0 (sym (ap (λ (z : Place). z.node) a.1) ∙ e ∙ ap (λ (z : Place). z.node) b.1) (sym (ap (λ (z : Place). z.team) a.1) ∙ f ∙ ap (λ (z : Place). z.team) b.1)
        (sym (not_at node p (seat s next (next + 1) p (stop (below s next p) i).node) (stop (below s next p) i).node (λ z. absurd (omega arith)))
        ∙ h' ∙ not_at node q (seat s next (next + 1) q (stop (below s next q) j).node) (stop (below s next q) j).node (λ z. absurd (omega arith))))
    | inr b ↦ absurd (let g = (from_next s next p lp i a.0).0 in let d : (stop (below s next p) i).node ≡ node = sym (ap (λ (z : Place). z.node) a.1) ∙ e ∙ ap (λ (z : Place). z.node) b.1 in omega arith)
  ]
  | inr a ↦ elim (stop_push (below s next q) (top node team) j lj) [
    | inl b ↦ absurd (let g = (from_next s next q lq j b.0).0 in let d : node ≡ (stop (below s next q) j).node = sym (ap (λ (z : Place). z.node) a.1) ∙ e ∙ ap (λ (z : Place). z.node) b.1 in omega arith)
    | inr b ↦ (let h' : (if nat_eq node node then p else seat s next (next + 1) p node) ≡ (if nat_eq node node then q else seat s next (next + 1) q node) = rw (a.1, b.1) at h in
        sym (at_node node p (seat s next (next + 1) p node) node refl) ∙ h' ∙ at_node node q (seat s next (next + 1) q node) node refl)
  ]
]

pub have_seats : (t : Teams) (node team next p q : ℕ) → node < next → p < members t → q < members t → HaveSeats (climb t node team next p) (seat t node next p) p (climb t node team next q) (seat t node next q) q
have_seats Last node team next p q ln lp lq i j li lj e f h = absurd (omega arith)
have_seats (Alone r) node team next zero zero ln lp lq i j li lj e f h = refl
have_seats (Alone r) node team next zero (suc q) ln lp lq (suc i) j li lj e f h = absurd (omega arith)
have_seats (Alone r) node team next (suc p) zero ln lp lq i (suc j) li lj e f h = absurd (omega arith)
have_seats (Alone r) node team next zero (suc q) ln lp lq zero j li lj e f h =
    absurd (apart node team next (next + nodes_in r) next (climb r node (team + 1) next q) j (top node team) ln (inl (refl, refl)) (omega arith) (found r node (team + 1) next q (omega arith)) lj e f)
have_seats (Alone r) node team next (suc p) zero ln lp lq i zero li lj e f h =
    absurd (apart node team next (next + nodes_in r) next (climb r node (team + 1) next p) i (top node team) ln (inl (refl, refl)) (omega arith) (found r node (team + 1) next p (omega arith)) li (sym e) (sym f))
have_seats (Alone r) node team next (suc p) (suc q) ln lp lq i j li lj e f h = ap suc (have_seats r node (team + 1) next p q ln (omega arith) (omega arith) i j li lj e f h)
have_seats (Meet s r) node team next p q ln lp lq i j li lj e f h =
    meet_seats (λ xs g. HaveSeats xs g p (climb (Meet s r) node team next q) (seat (Meet s r) node next q) q) s r node team next p
    (λ ip. meet_seats (λ ys g. HaveSeats (below s next p ++ top node team ∷ []) (λ v. if nat_eq v node then p else seat s next (next + 1) p v) p ys g q) s r node team next q
    (λ iq. seats_push s node team next p q ln ip iq (have_seats s next 0 (next + 1) p q (omega arith) ip iq))
    (λ oq i j li lj e f h. absurd (clash s r node team next ln p q ip (omega arith) i j li lj e f)))
    (λ op. meet_seats (λ ys g. HaveSeats (beside s r node team next p) (seat r node (next + 1 + nodes_in s) (p - members s)) p ys g q) s r node team next q
    (λ iq i j li lj e f h. absurd (clash s r node team next ln q p iq (omega arith) j i lj li (sym e) (sym f)))
    (λ oq i j li lj e f h. let same = have_seats r node (team + 1) (next + 1 + nodes_in s) (p - members s) (q - members s) (omega arith) (omega arith) (omega arith) i j li lj e f h in omega arith)) i j li lj e f h
