-- Full trees of operations that part.
use Rattle.std.proofs.Common.{ℕ, zero, suc, ◌≡◌, ◌+◌, ◌-◌, ◌*◌, ◌<◌, ◌≤◌, inl, inr, List, [], ◌∷◌, ◌++◌, length, refl, ap, ◌∙◌, arith}
use Rattle.cn_meetings.specs.Witness.{Has}
use Rattle.cn_trees.specs.FullTrees.{copies, full, power, singles}
use Rattle.cn_trees.specs.Tree.{Place, Teams, climb, comes_to, levels, members, nodes_in, team_in}
use Rattle.cn_trees.specs.Tree.Teams.{Last, Alone, Meet}
use Rattle.cn_trees.proofs.Places.{came}
use Rattle.cn_trees.proofs.Paths.{below, meet_cases, stop, stop_push, top}

-- the number of teams
abbrev pub width : Teams → ℕ
width Last = 0
width (Alone r) = 1 + width r
width (Meet s r) = 1 + width r

-- no node below has more than k teams
abbrev pub Within : ℕ → Teams → Type 0
Within k Last = Unit {0}
Within k (Alone r) = Within k r
Within k (Meet s r) = (width s ≤ k) × Within k s × Within k r

abbrev FewTeams : ℕ → List Place → Type 0
FewTeams k path = (i : ℕ) → i < length path → (stop path i).team < k

few_push : (k node team : ℕ) (path : List Place) → team < k → FewTeams k path → FewTeams k (path ++ top node team ∷ [])
few_push k node team path lt few i li = elim (stop_push path (top node team) i li) [ inl h ↦ rw h.1 (few i h.0) | inr h ↦ rw h.1 lt ]

few_teams : (k : ℕ) (t : Teams) (node team next p : ℕ) → team + width t ≤ k → Within k t → p < members t → FewTeams k (climb t node team next p)
few_teams k Last node team next p le w lp i li = absurd (omega arith)
few_teams k (Alone r) node team next zero le w lp zero li = omega arith
few_teams k (Alone r) node team next zero le w lp (suc i) li = absurd (omega arith)
few_teams k (Alone r) node team next (suc p) le w lp i li = few_teams k r node (team + 1) next p (omega arith) w (omega arith) i li
few_teams k (Meet s r) node team next p le w lp i li =
    meet_cases (FewTeams k) s r node team next p
    (λ l. few_push k node team (below s next p) (omega arith) (few_teams k s next 0 (next + 1) p (let h = w.0 in omega arith) w.1 l))
    (λ l. few_teams k r node (team + 1) (next + 1 + nodes_in s) (p - members s) (omega arith) w.2 (omega arith)) i li

-- so each process that comes to a node is in one of k teams there
pub team_below : (k : ℕ) (s : Teams) → width s ≤ k → Within k s → (node p : ℕ) → Has (comes_to s node) p → team_in s node p < k
team_below k s le w node p h = let c = came s node p h in rw c.team_there (few_teams k s 0 0 1 p (omega arith) w c.known c.at c.inside)

-- ---- full trees
pub singles_are : (k : ℕ) → (members (singles k) ≡ k) × (width (singles k) ≡ k) × (levels (singles k) ≤ 1)
singles_are zero = (refl, refl, omega arith)
singles_are (suc k) = let h = singles_are k in let a = h.0 in let b = h.1 in let c = h.2 in (omega arith, omega arith, omega arith)

singles_within : (k m : ℕ) → Within m (singles k)
singles_within zero m = tt
singles_within (suc k) m = singles_within k m

copies_are : (k : ℕ) (s : Teams) → (members (copies k s) ≡ k * members s) × (width (copies k s) ≡ k) × (levels (copies k s) ≤ 1 + levels s)
copies_are zero s = (grind arith, refl, omega arith)
copies_are (suc k) s = let h = copies_are k s in let a = h.0 in let b = h.1 in let c = h.2 in (grind arith, omega arith, omega arith)

copies_within : (k m : ℕ) (s : Teams) → width s ≤ m → Within m s → Within m (copies k s)
copies_within zero m s le w = tt
copies_within (suc k) m s le w = (le, w, copies_within k m s le w)

pub full_are : (k h : ℕ) → (members (full k h) ≡ power k (suc h)) × (width (full k h) ≡ k) × (levels (full k h) ≤ h + 1) × Within k (full k h)
full_are k zero = let s = singles_are k in let a = s.0 in let c = s.2 in (grind arith, s.1, omega arith, singles_within k k)
full_are k (suc h) =
    let f = full_are k h in
    let c = copies_are k (full k h) in
    let a = c.2 in let b = f.2 in let w = f.1 in
    (c.0 ∙ ap (λ m. k * m) f.0, c.1, omega arith, copies_within k k (full k h) (omega arith) f.3)
