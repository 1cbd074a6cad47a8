-- A step of one process, and its number of steps.
use Rattle.std.proofs.Common.{ℕ, suc, ◌≡◌, ◌≢◌, Bool, true, false, ◌+◌, ◌*◌, ◌<◌, ◌≤◌, min, List, length, Some, refl, sym, ap, ◌∙◌, arith, nat_lt, get_or-set_other, get_or-set_same}
use Rattle.cn_choice.specs.declared.team.Team.{Team}
use Rattle.cn_proto.specs.declared.place.Place.{Place}
use Rattle.cn_agree.specs.declared.local.Stage.{Stage}
use Rattle.cn_agree.specs.declared.local.Stage.TheVariants.{Write, Apply, Read, Take}
use Rattle.cn_agree.specs.declared.local.Local.{Local}
use Rattle.cn_agree.specs.declared.local.Local.TheVariants.{NotBegun, Active, Decided}
use Rattle.cn_proto.specs.Protocol.{ProtocolOfRounds, place_of}
use Rattle.cn_agree.specs.World.{World, local_at}
use Rattle.cn_agree.specs.Steps.{after_action, first_after, onward, after_step, after_step_from}
use Rattle.cn_proto.specs.Sound.{IsSound}
use Rattle.cn_agree.proofs.Invariant.{LocalHolds, Holds}
use Rattle.cn_agree.specs.Rounds.{steps_taken, actions_done}
use Rattle.cn_agree.proofs.Actions.{extended, keeps_write, keeps_apply, keeps_read, keeps_take, found_is, onward_steps}

-- the invariant holds with some orders
abbrev pub Kept : {V : Type 0} → ProtocolOfRounds → ℕ → ℕ → (ℕ → Team) → World V → Type 0
Kept P n nodes team w = (order : ℕ → List ℕ) × Holds P n nodes team w order

-- a step of another process keeps a local state
pub other_local : {V : Type 0} (P : ProtocolOfRounds) (w : World V) (p q : ℕ) → q ≢ p → local_at (after_step P p w) q ≡ local_at w q
other_local P w p q ne = go (local_at w p)
  where
    staged : (i : ℕ) (x : _) (stage : Stage) → local_at (after_action P p w i x stage (place_of P p i)) q ≡ local_at w q
    staged i x Write = get_or-set_other w.locals p q _ NotBegun ne
    staged i x Apply = get_or-set_other w.locals p q _ NotBegun ne
    staged i x (Read response) = get_or-set_other w.locals p q _ NotBegun ne
    staged i x (Take response state) = get_or-set_other w.locals p q _ NotBegun ne

    go : (here : Local _) → local_at (after_step_from P p w here) q ≡ local_at w q
    go NotBegun = refl
    go (Active i x stage) = staged i x stage
    go (Decided y) = refl

-- a step keeps the inputs
pub inputs_step : {V : Type 0} (P : ProtocolOfRounds) (p : ℕ) (w : World V) → (after_step P p w).inputs ≡ w.inputs
inputs_step P p w = go (local_at w p)
  where
    go : (here : Local _) → (after_step_from P p w here).inputs ≡ w.inputs
    go NotBegun = refl
    go (Active i x stage) = refl
    go (Decided y) = refl

-- a step keeps the record of the first application
pub first_step : {V : Type 0} (P : ProtocolOfRounds) (p : ℕ) (w : World V) (team : Team) → w.first ≡ Some team → (after_step P p w).first ≡ Some team
first_step P p w team h = go (local_at w p)
  where
    staged : (stage : Stage) (here : Place) → first_after w.first here stage ≡ Some team
    staged Write here = h
    staged Apply here = rw h refl
    staged (Read response) here = h
    staged (Take response state) here = h

    go : (here : Local _) → (after_step_from P p w here).first ≡ Some team
    go NotBegun = h
    go (Active i x stage) = staged stage (place_of P p i)
    go (Decided y) = h

module _ {V : Type 0} (P : ProtocolOfRounds) (n nodes : ℕ) (team : ℕ → Team) (sound : IsSound P n nodes team) where
  pub keeps_step : (w : World V) → Kept P n nodes team w → (p : ℕ) → p < n → Kept P n nodes team (after_step P p w)
  keeps_step w kept p lt = go (local_at w p) refl
    where
      staged : (i : ℕ) (x : V) (stage : Stage) → local_at w p ≡ Active i x stage → Kept P n nodes team (after_action P p w i x stage (place_of P p i))
      staged i x Write e = (kept.0, keeps_write P n nodes team sound w kept.0 kept.1 p i lt x e)
      staged i x Apply e = (extended kept.0 (place_of P p i).node (place_of P p i).role, keeps_apply P n nodes team sound w kept.0 kept.1 p i lt x e)
      staged i x (Read response) e = (kept.0, keeps_read P n nodes team sound w kept.0 kept.1 p i lt x response e)
      staged i x (Take response state) e = (kept.0, keeps_take P n nodes team sound w kept.0 kept.1 p i lt x response state e)

      go : (here : Local V) → local_at w p ≡ here → Kept P n nodes team (after_step_from P p w here)
      go NotBegun e = kept
      go (Active i x stage) e = staged i x stage e
      go (Decided y) e = kept

  -- a step of a process that has begun and not decided adds one to its count; a process that has decided takes none
  abbrev pub IsOneMore : ℕ → Local V → Local V → Type 0
  IsOneMore p NotBegun after = after ≡ NotBegun
  IsOneMore p (Active i x stage) after = (steps_taken P p after ≡ suc (4 * i + actions_done stage)) × (after ≢ NotBegun)
  IsOneMore p (Decided y) after = after ≡ Decided y

  pub one_more : (w : World V) → Kept P n nodes team w → (p : ℕ) → p < n → IsOneMore p (local_at w p) (local_at (after_step P p w) p)
  one_more w kept p lt = go (local_at w p) refl
    where
      lp : p < length w.locals
      lp = rw (kept.1.locals_are) lt

      active : (i : ℕ) (x : V) (stage : Stage) → Active i x stage ≢ NotBegun
      active i x stage e = cc

      went : (i : ℕ) (y : V) → (more : Bool) → nat_lt (i + 1) (length (P.path p)) ≡ more → onward (length (P.path p)) i y ≢ NotBegun
      went i y true is e = let e' : Active (i + 1) y Write ≡ NotBegun = rw is at e in cc
      went i y false is e = let e' : Decided y ≡ NotBegun = rw is at e in cc

      staged : (i : ℕ) (x : V) (stage : Stage) → local_at w p ≡ Active i x stage → IsOneMore p (Active i x stage) (local_at (after_action P p w i x stage (place_of P p i)) p)
      staged i x Write e = rw (get_or-set_same w.locals p (Active i x Apply) NotBegun lp) (omega arith, active i x Apply)
      staged i x Apply e = rw (get_or-set_same w.locals p _ NotBegun lp) (omega arith, active i x (Read _))
      staged i x (Read response) e = rw (get_or-set_same w.locals p _ NotBegun lp) (omega arith, active i x (Take response _))
      staged i x (Take response state) e =
          let mine = rw e at (kept.1.local_holds p lt) in
          let v : ℕ = (place_of P p i).node in
          let found = found_is P n nodes team sound w kept.0 kept.1 p i lt x v (place_of P p i).role response.0 state.0 (kept.0 v) refl mine.2 in
          rw (found.1, get_or-set_same w.locals p (onward (length (P.path p)) i found.0) NotBegun lp) (
            onward_steps P n nodes team sound w kept.0 kept.1 p i lt x found.0 mine.0 (nat_lt (i + 1) (length (P.path p))) refl ∙ omega arith,
            went i found.0 (nat_lt (i + 1) (length (P.path p))) refl,
          )

      go : (here : Local V) → local_at w p ≡ here → IsOneMore p here (local_at (after_step_from P p w here) p)
      go NotBegun e = e
      go (Active i x stage) e = staged i x stage e
      go (Decided y) e = e

  -- no process takes more steps than its path has
  pub within : (w : World V) → Kept P n nodes team w → (p : ℕ) → p < n → steps_taken P p (local_at w p) ≤ 4 * length (P.path p)
  within w kept p lt = go (local_at w p) (kept.1.local_holds p lt)
    where
      stages : (stage : Stage) → actions_done stage < 4
      stages Write = omega arith
      stages Apply = omega arith
      stages (Read response) = omega arith
      stages (Take response state) = omega arith

      go : (here : Local V) → LocalHolds P n team w kept.0 p here → steps_taken P p here ≤ 4 * length (P.path p)
      go NotBegun h = omega arith
      go (Active i x stage) h = let l = h.0.1 in let s = stages stage in omega arith
      go (Decided y) h = omega arith

  pub step_count : (w : World V) → Kept P n nodes team w → (p : ℕ) → p < n → local_at w p ≢ NotBegun
      → (local_at (after_step P p w) p ≢ NotBegun) × (steps_taken P p (local_at (after_step P p w) p) ≡ min (steps_taken P p (local_at w p) + 1) (4 * length (P.path p)))
  step_count w kept p lt begun = go (local_at w p) (local_at (after_step P p w) p) refl refl (one_more w kept p lt)
    where
      le : steps_taken P p (local_at (after_step P p w) p) ≤ 4 * length (P.path p)
      le = within (after_step P p w) (keeps_step w kept p lt) p lt

      go : (here there : Local V) → local_at w p ≡ here → local_at (after_step P p w) p ≡ there → IsOneMore p here there
          → (there ≢ NotBegun) × (steps_taken P p there ≡ min (steps_taken P p here + 1) (4 * length (P.path p)))
      go NotBegun there e f h = absurd (begun e)
      go (Active i x stage) there e f h = let le' : steps_taken P p there ≤ 4 * length (P.path p) = rw f at le in let g = h.0 in (h.1, omega arith)
      go (Decided y) there e f h = (λ g. let d : Decided y ≡ NotBegun = sym h ∙ g in cc, ap (steps_taken P p) h ∙ omega arith)
