-- The places of processes in a plan tree.
use Rattle.std.proofs.Common.{ℕ, ◌≡◌, ◌+◌, ◌-◌, ◌<◌, inl, inr, length, arith, refl, sym, ap, ◌∙◌, subst, Bool, true, false, ◌&&◌, nat_lt, true≢false}
use Rattle.std.proofs.lemmas.Bool.{cases_lt}
use Rattle.std.proofs.lemmas.Bool.Decides.{nat_tests}
use Rattle.std.proofs.Math.ListN.{get_or-eq_default}
use Rattle.cn_meetings.specs.Witness.{Has}
use Rattle.cn_trees.specs.Tree.{IsPlace, Place, PlanTree, Teams, comes_to, members, nodes_of, passes, path_in, path_of, place_of, processes_of, team_in}
use Rattle.cn_trees.proofs.Paths.{AreFedAlike, fed_at, found, last_at, one_visit, passes_at, place_at, some_place, stop, team_is}

pub starts : (T : PlanTree) (p : ℕ) → p < processes_of T → 0 < length (path_of T p)
starts T p lp = some_place T.teams 0 0 1 p lp

pub ends : (T : PlanTree) (p i : ℕ) → IsPlace T p i → i + 1 ≡ length (path_of T p) → (place_of T p i).node ≡ 0
ends T p i at e = last_at T.teams 0 0 1 p i at.0 e

pub one_place : (T : PlanTree) (p i j : ℕ) → IsPlace T p i → IsPlace T p j → (place_of T p i).node ≡ (place_of T p j).node → i ≡ j
one_place T p i j at bt e = one_visit T.teams 0 0 1 p (omega arith) at.0 i j at.1 bt.1 e

pub fed : (T : PlanTree) (p i q j : ℕ) → IsPlace T p i → IsPlace T q j → (place_of T p i).node ≡ (place_of T q j).node → (place_of T p i).team ≡ (place_of T q j).team
    → AreFedAlike (path_of T p) p i (path_of T q) q j
fed T p i q j at bt e f = fed_at T.teams 0 0 1 p q (omega arith) at.0 bt.0 i j at.1 bt.1 e f

pub team_there : (T : PlanTree) (p i : ℕ) → IsPlace T p i → team_in T.teams (place_of T p i).node p ≡ (place_of T p i).team
team_there T p i at = team_is (path_of T p) i at.1 (one_visit T.teams 0 0 1 p (omega arith) at.0)

pub come : (T : PlanTree) (p i : ℕ) → IsPlace T p i → Has (comes_to T.teams (place_of T p i).node) p
come T p i at =
    let e : nat_lt p (processes_of T) ≡ true = (let l = at.0 in grind (arith, nat_tests)) in
    rw e (passes_at (path_of T p) i at.1)

pub known : (s : Teams) (node p : ℕ) → Has (comes_to s node) p → p < members s
known s node p h = go (nat_lt p (members s)) refl h
  where
    go : (b : Bool) → nat_lt p (members s) ≡ b → (b && passes (path_in s p) node) ≡ true → p < members s
    go false e h = absurd (true≢false (sym h))
    go true e h = grind (arith, nat_tests)

-- a process comes to each place of its path; a place that is none stands for one at the root
pub come_any : (T : PlanTree) (p i : ℕ) → p < processes_of T → Has (comes_to T.teams (place_of T p i).node) p
come_any T p i lp = elim (cases_lt i (length (path_of T p))) [
  | inl lt ↦ come T p i (lp, lt)
  | inr ge ↦ (let root : (place_of T p i).node ≡ 0 = ap (λ (x : Place). x.node) (get_or-eq_default (path_of T p) _ ge) in
      let last = last_place T p lp in
      subst (λ v. Has (comes_to T.teams v) p) (last.2 ∙ sym root) (come T p last.0 last.1))
]
  where
    last_place : (T : PlanTree) (p : ℕ) → p < processes_of T → (j : ℕ) × IsPlace T p j × ((place_of T p j).node ≡ 0)
    last_place T p lp =
        let some = starts T p lp in
        let at : IsPlace T p (length (path_of T p) - 1) = (lp, omega arith) in
        (length (path_of T p) - 1, at, ends T p (length (path_of T p) - 1) at (omega arith))

pub node_known : (T : PlanTree) (p i : ℕ) → IsPlace T p i → (place_of T p i).node < nodes_of T
node_known T p i at = elim (found T.teams 0 0 1 p at.0 i at.1) [
  | inl h ↦ (let e = h.node_is in omega arith)
  | inr h ↦ (let u = h.under in omega arith)
]

-- a process that comes to a node has a place there, in its team
pub record Came (s : Teams) (node p : ℕ) : Type 0 where
  pub known : p < members s
  pub at : ℕ
  pub inside : at < length (path_in s p)
  pub node_is : (stop (path_in s p) at).node ≡ node
  pub team_there : team_in s node p ≡ (stop (path_in s p) at).team

pub came : (s : Teams) (node p : ℕ) → Has (comes_to s node) p → Came s node p
came s node p h =
    let lp = known s node p h in
    let at = place_at (path_in s p) node (passing (nat_lt p (members s)) h) in
    record {
      known = lp;
      at = at.0;
      inside = at.1;
      node_is = at.2;
      team_there = ap (λ v. team_in s v p) (sym at.2) ∙ team_is (path_in s p) at.0 at.1 (one_visit s 0 0 1 p (omega arith) lp);
    }
  where
    passing : (b : Bool) → (b && passes (path_in s p) node) ≡ true → passes (path_in s p) node ≡ true
    passing false e = absurd (true≢false (sym e))
    passing true e = e
