-- One witness at every node, and the tournament of a witness of two teams.
use Rattle.std.proofs.Common.{ℕ, zero, suc, ◌≡◌, ◌+◌, ◌-◌, ◌<◌, ◌≤◌, max, Bool, true, false, List, [], ◌∷◌, length, refl, sym, ap, ◌∙◌, subst, arith, nat_lt, length-append, ◌++◌, if◌then◌else◌}
use Rattle.std.proofs.lemmas.Bool.Decides.{nat_tests}
use Rattle.std.proofs.lemmas.List.Elements.{All-get_or}
use Rattle.cn_table.specs.TypeTable.{TypeTable}
use Rattle.cn_proto.specs.Tournament.{Bracket, bracket, first_team, tournament, whole}
use Rattle.cn_proto.specs.Tournament as rounds
use Rattle.cn_proto.specs.Tournament.Bracket.{Alone as Single, Node}
use Rattle.cn_choice.specs.Canonical.{Choice, raw_choice_of}
use Rattle.cn_choice.specs.RawChoices.{IsRawChoice}
use Rattle.cn_meetings.specs.Choices.{choice_meeting, choice_processes, choice_team, renamed}
use Rattle.cn_meetings.specs.Meeting.{Meeting}
use Rattle.cn_meetings.specs.Witness.{BeginsIn, Has, IsShown, IsTeamWitness}
use Rattle.cn_trees.specs.Seats.{Fits, HasRoles, pair_role, pair_room, root_of, seat_in, seated_tree, tournament_teams, tournament_tree, with_team}
use Rattle.cn_trees.specs.Tree.{AreWitnesses, IsOfType, Teams, climb, comes_to, levels, members, nodes_in, path_in, team_in}
use Rattle.cn_trees.specs.Tree.Teams.{Last}
use Rattle.cn_trees.proofs.Paths.{below, meet_cases, stop, top}
use Rattle.cn_trees.proofs.Places.{came}
use Rattle.cn_trees.proofs.Seats.{have_seats, seated}

-- a witness depends on the teams of its processes alone
same_teams : (t : TypeTable) (M : Meeting) (processes : ℕ → Bool) (team other : ℕ → ℕ) → ((p : ℕ) → Has processes p → team p ≡ other p) → IsTeamWitness t M processes team → IsTeamWitness t M processes other
same_teams t M processes team other same witness g h p response saw alpha beta a b bg bh = witness g h p response saw alpha beta a b (begins alpha a g bg) (begins beta b h bh)
  where
    begins : (order : List ℕ) → IsShown t M processes order p response saw → (side : ℕ) → BeginsIn other side order → BeginsIn team side order
    begins [] shown side b = b
    begins (x ∷ order) shown side b = same x (shown.is_order.members 0 x refl) ∙ b

-- the law of processes under other names
abbrev pub OtherNames : Type 0
OtherNames = (t : TypeTable) (M : Meeting) (processes others : ℕ → Bool) (role team : ℕ → ℕ) → ((p : ℕ) → Has others p → Has processes (role p)) → ((p q : ℕ) → Has others p → Has others q → role p ≡ role q → p ≡ q)
    → IsTeamWitness t M processes team → IsTeamWitness t (renamed role M) others (λ p. team (role p))

module _ (names : OtherNames) (t : TypeTable) (s : Teams) (M : Meeting) (processes : ℕ → Bool) (team room : ℕ → ℕ) (role : ℕ → ℕ → ℕ) (roles : HasRoles processes team room role) (fits : Fits room 0 s) where
  abbrev own : ℕ → ℕ → ℕ
  own v p = role (team_in s v p) (seat_in s v p)

  within : (v p : ℕ) → Has (comes_to s v) p → seat_in s v p < room (team_in s v p)
  within v p h =
      let c = came s v p h in
      let i : seat_in s (stop (path_in s p) c.at).node p < room (stop (path_in s p) c.at).team = seated room s 0 0 1 p (omega arith) fits c.known c.at c.inside in
      subst (λ k. seat_in s k p < room (team_in s v p)) c.node_is (subst (λ g. seat_in s (stop (path_in s p) c.at).node p < room g) (sym c.team_there) i)

  own_apart : (v p q : ℕ) → Has (comes_to s v) p → Has (comes_to s v) q → own v p ≡ own v q → p ≡ q
  own_apart v p q hp hq e =
      let c = came s v p hp in let d = came s v q hq in
      let g : team_in s v p ≡ team_in s v q = sym (roles.team_is (team_in s v p) (seat_in s v p) (within v p hp)) ∙ (ap team e ∙ roles.team_is (team_in s v q) (seat_in s v q) (within v q hq)) in
      let lp : seat_in s v p < room (team_in s v q) = subst (λ k. seat_in s v p < room k) g (within v p hp) in
      let e' : role (team_in s v q) (seat_in s v p) ≡ role (team_in s v q) (seat_in s v q) = subst (λ k. role k (seat_in s v p) ≡ own v q) g e in
      let same : seat_in s v p ≡ seat_in s v q = roles.apart (team_in s v q) (seat_in s v p) (seat_in s v q) lp (within v q hq) e' in
      have_seats s 0 0 1 p q (omega arith) c.known d.known c.at d.at c.inside d.inside (c.node_is ∙ sym d.node_is) (sym c.team_there ∙ (g ∙ d.team_there))
      (ap (λ k. seat_in s k p) c.node_is ∙ (same ∙ ap (λ k. seat_in s k q) (sym d.node_is)))

  pub seated_witnesses : IsTeamWitness t M processes team → AreWitnesses (seated_tree t s M role)
  seated_witnesses witness v =
      same_teams t (renamed (own v) M) (comes_to s v) (λ p. team (own v p)) (team_in s v) (λ p h. roles.team_is (team_in s v p) (seat_in s v p) (within v p h))
      (names t M processes (comes_to s v) (own v) team (λ p h. roles.known (team_in s v p) (seat_in s v p) (within v p h)) (λ p q hp hq e. own_apart v p q hp hq e) witness)

  pub own_known : (v p : ℕ) → Has (comes_to s v) p → Has processes (own v p)
  own_known v p h = roles.known (team_in s v p) (seat_in s v p) (within v p h)

-- ---- the tournament
abbrev FitsIn : ℕ → ℕ → Bracket → Type 0
FitsIn a b Single = Unit {0}
FitsIn a b (Node s u) = (rounds.members s ≤ a) × (rounds.members u ≤ b) × FitsIn a b s × FitsIn a b u

bracket_fits : (fuel a b k : ℕ) → 1 ≤ a → 1 ≤ b → 1 ≤ k → k ≤ fuel → k ≤ a + b → FitsIn a b (bracket fuel b k) × (rounds.members (bracket fuel b k) ≡ k)
bracket_fits zero a b k la lb lk lf ln = absurd (omega arith)
bracket_fits (suc fuel) a b k la lb lk lf ln = go (nat_lt k 2) refl
    (λ two. bracket_fits fuel a b (first_team b k) la lb (omega arith) (omega arith) (omega arith))
    (λ two. bracket_fits fuel a b (k - first_team b k) la lb (omega arith) (omega arith) (omega arith))
  where
    go : (few : Bool) → nat_lt k 2 ≡ few
        → (2 ≤ k → FitsIn a b (bracket fuel b (first_team b k)) × (rounds.members (bracket fuel b (first_team b k)) ≡ first_team b k))
        → (2 ≤ k → FitsIn a b (bracket fuel b (k - first_team b k)) × (rounds.members (bracket fuel b (k - first_team b k)) ≡ k - first_team b k))
        → FitsIn a b (bracket (suc fuel) b k) × (rounds.members (bracket (suc fuel) b k) ≡ k)
    go true e left right = rw e (tt, (let l : k < 2 = grind (arith, nat_tests) in omega arith))
    go false e left right =
        let two : 2 ≤ k = grind (arith, nat_tests) in
        let l = left two in let r = right two in let ml = l.1 in let mr = r.1 in
        rw e ((omega arith, omega arith, l.0, r.0), omega arith)

-- a bracket as a team, with its processes and its levels
team_members : (c : Bracket) (rest : Teams) → members (with_team c rest) ≡ rounds.members c + members rest
team_members Single rest = refl
team_members (Node s u) rest = let a = team_members s (with_team u Last) in let b = team_members u Last in omega arith

team_levels : (c : Bracket) (rest : Teams) → levels (with_team c rest) ≤ max (rounds.members c) (levels rest)
team_levels Single rest = omega arith
team_levels (Node s u) rest = let a = team_levels s (with_team u Last) in let b = team_levels u Last in let c = some s in let d = some u in omega arith
  where
    some : (c : Bracket) → 1 ≤ rounds.members c
    some Single = omega arith
    some (Node s u) = let a = some s in omega arith

team_fits : (a b g : ℕ) (c : Bracket) (rest : Teams) → rounds.members c ≤ pair_room a b g → FitsIn a b c → Fits (pair_room a b) (g + 1) rest → Fits (pair_room a b) g (with_team c rest)
team_fits a b g Single rest le in_c fits = (le, fits)
team_fits a b g (Node s u) rest le in_c fits = (
  (let m = team_members s (with_team u Last) in let n = team_members u Last in omega arith),
  team_fits a b 0 s (with_team u Last) in_c.0 in_c.2 (team_fits a b 1 u Last in_c.1 in_c.3 tt),
  fits,
)

-- ---- paths are as long as those of rounds
behind_team : (c : Bracket) (rest : Teams) (node team next p : ℕ) → rounds.members c ≤ p
    → (later : ℕ) × (climb (with_team c rest) node team next p ≡ climb rest node (team + 1) later (p - rounds.members c))
behind_team Single rest node team next zero le = absurd (omega arith)
behind_team Single rest node team next (suc p) le = (next, ap (climb rest node (team + 1) next) (omega arith))
behind_team (Node s u) rest node team next p le =
    let inner : Teams = with_team s (with_team u Last) in
    let size : members inner ≡ rounds.members s + rounds.members u = (let x = team_members s (with_team u Last) in let y = team_members u Last in omega arith) in (
      next + 1 + nodes_in inner,
      meet_cases (λ path. path ≡ climb rest node (team + 1) (next + 1 + nodes_in inner) (p - (rounds.members s + rounds.members u))) inner rest node team next p
          (λ l. absurd (omega arith))
          (λ l. ap (λ m. climb rest node (team + 1) (next + 1 + nodes_in inner) (p - m)) size),
    )

root_step : (a v : ℕ) (s u : Bracket) (node team next p : ℕ) → p < rounds.members s + rounds.members u
    → (p < rounds.members s → length (climb (with_team s (with_team u Last)) node team next p) ≡ length (rounds.climb a s (v + 1) p) + 1)
    → ((later q : ℕ) → q < rounds.members u → length (climb (with_team u Last) node (team + 1) later q) ≡ length (rounds.climb a u (v + rounds.members s) q) + 1)
    → length (climb (with_team s (with_team u Last)) node team next p) ≡ length (rounds.climb a (Node s u) v p)
root_step a v s u node team next p lt inner outer =
    go (nat_lt p (rounds.members s)) refl
    ∙ sym (length-append (if nat_lt p (rounds.members s) then rounds.climb a s (v + 1) p else rounds.climb a u (v + rounds.members s) (p - rounds.members s)) (rounds.stand a s v p ∷ []))
  where
    go : (first : Bool) → nat_lt p (rounds.members s) ≡ first
        → length (climb (with_team s (with_team u Last)) node team next p) ≡ length (if first then rounds.climb a s (v + 1) p else rounds.climb a u (v + rounds.members s) (p - rounds.members s)) + 1
    go true e = inner (grind (arith, nat_tests))
    go false e =
        let l : rounds.members s ≤ p = grind (arith, nat_tests) in
        let b = behind_team s (with_team u Last) node team next p l in
        ap length b.1 ∙ outer b.0 (p - rounds.members s) (omega arith)

path_long : (a v : ℕ) (c : Bracket) (rest : Teams) (node team next p : ℕ) → p < rounds.members c → length (climb (with_team c rest) node team next p) ≡ length (rounds.climb a c v p) + 1
path_long a v Single rest node team next zero lt = refl
path_long a v Single rest node team next (suc p) lt = absurd (omega arith)
path_long a v (Node s u) rest node team next p lt =
    let size : members (with_team s (with_team u Last)) ≡ rounds.members s + rounds.members u = (let x = team_members s (with_team u Last) in let y = team_members u Last in omega arith) in
    let h = root_step a v s u next 0 (next + 1) p lt (λ l. path_long a (v + 1) s (with_team u Last) next 0 (next + 1) p l) (λ later q l. path_long a (v + rounds.members s) u Last next 1 later q l) in
    meet_cases (λ path. length path ≡ length (rounds.climb a (Node s u) v p) + 1) (with_team s (with_team u Last)) rest node team next p
    (λ l. omega (arith, h, length-append (below (with_team s (with_team u Last)) next p) (top node team ∷ [])))
    (λ l. absurd (omega arith))

pub paths_are : (a b p : ℕ) → 1 ≤ a → 1 ≤ b → p < a + b → length (path_in (tournament_teams a b) p) ≡ length (tournament a b p)
paths_are a b p la lb lp = let f = bracket_fits (a + b) a b (a + b) la lb (omega arith) (omega arith) (omega arith) in go (whole a b) f.1
  where
    go : (c : Bracket) → rounds.members c ≡ a + b → length (path_in (root_of c) p) ≡ length (rounds.climb a c 0 p)
    go Single m = absurd (omega arith)
    go (Node s u) m = root_step a 0 s u 0 0 1 p (omega arith) (λ l. path_long a 1 s (with_team u Last) 0 0 1 p l) (λ later q l. path_long a (0 + rounds.members s) u Last 0 1 later q l)

abbrev Whole : ℕ → ℕ → Bracket → Type 0
Whole a b c = Fits (pair_room a b) 0 (root_of c) × (members (root_of c) ≡ a + b) × (levels (root_of c) ≤ a + b - 1)

pub tournament_is : (a b : ℕ) → 1 ≤ a → 1 ≤ b → Whole a b (whole a b)
tournament_is a b la lb = let f = bracket_fits (a + b) a b (a + b) la lb (omega arith) (omega arith) (omega arith) in go (whole a b) f.0 f.1
  where
    go : (c : Bracket) → FitsIn a b c → rounds.members c ≡ a + b → Whole a b c
    go Single in_c m = absurd (omega arith)
    go (Node s u) in_c m =
        let x = team_members s (with_team u Last) in let y = team_members u Last in
        let v = team_levels s (with_team u Last) in let w = team_levels u Last in (
          team_fits a b 0 s (with_team u Last) in_c.0 in_c.2 (team_fits a b 1 u Last in_c.1 in_c.3 tt),
          omega arith,
          (let p = some s in let q = some u in omega arith),
        )
      where
        some : (c : Bracket) → 1 ≤ rounds.members c
        some Single = omega arith
        some (Node s u) = let a = some s in omega arith

pub pair_roles : (a b : ℕ) → HasRoles (λ p. nat_lt p (a + b)) (λ p. if nat_lt p a then 0 else 1) (pair_room a b) (pair_role a)
pair_roles a b = record { known = known; team_is = team_is; apart = apart }
  where
    known : (g i : ℕ) → i < pair_room a b g → Has (λ p. nat_lt p (a + b)) (pair_role a g i)
    known zero i lt = grind (arith, nat_tests)
    known (suc zero) i lt = grind (arith, nat_tests)
    known (suc (suc g)) i lt = absurd (omega arith)

    team_is : (g i : ℕ) → i < pair_room a b g → (if nat_lt (pair_role a g i) a then 0 else 1) ≡ g
    team_is zero i lt = let e : nat_lt i a ≡ true = grind (arith, nat_tests) in rw e refl
    team_is (suc zero) i lt = let e : nat_lt (a + i) a ≡ false = grind (arith, nat_tests) in rw e refl
    team_is (suc (suc g)) i lt = absurd (omega arith)

    apart : (g i j : ℕ) → i < pair_room a b g → j < pair_room a b g → pair_role a g i ≡ pair_role a g j → i ≡ j
    apart zero i j li lj e = e
    apart (suc g) i j li lj e = omega arith

pub tournament_of : (t : TypeTable) (n : ℕ) (c : Choice) → OtherNames → 1 ≤ length c.a → 1 ≤ length c.b → IsRawChoice t n (raw_choice_of c) → IsOfType (tournament_tree t c)
tournament_of t n c names la lb is = record {
  starts = λ node. is.state_known;
  operations = λ node p h. (
      let a = length c.a in let b = length c.b in
      let role : ℕ = pair_role a (team_in (tournament_teams a b) node p) (seat_in (tournament_teams a b) node p) in
      let known : Has (choice_processes c) role = own_known names t (tournament_teams a b) (choice_meeting c) (choice_processes c) (choice_team c) (pair_room a b) (pair_role a) (pair_roles a b) (tournament_is a b la lb).0 node p h in
      let less : role < a + b = grind (arith, nat_tests) in
      All-get_or (λ o. o < length t.operations) (c.a ++ c.b) role 0 (omega (arith, less, length-append c.a c.b)) is.operations_known);
  sights = λ node p h. tt;
}
