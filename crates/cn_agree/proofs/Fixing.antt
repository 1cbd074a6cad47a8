-- A round fixes one value.
use Rattle.std.proofs.Common.{ℕ, zero, suc, ◌≡◌, inl, inr, ◌+◌, ◌*◌, ◌<◌, ◌≤◌, ◌↔◌, min, List, [], ◌∷◌, ◌++◌, length, slice_index_or, slice_set, IsSome, slice_get, Option, Some, None, refl, sym, ◌∙◌, subst, arith, get_or-set_other, true≢false}
use Rattle.std.proofs.lemmas.Bool.{cases_eq}
use Rattle.std.proofs.lemmas.List.{set-get_or}
use Rattle.std.proofs.lemmas.List.Elements.{Contains-append_left, Contains-append_right}
use Rattle.cn_choice.specs.declared.team.Team.{Team}
use Rattle.cn_choice.specs.declared.team.Team.TheVariants.{A, B}
use Rattle.cn_proto.specs.Protocol.{ProtocolOfRounds, place_of}
use Rattle.cn_proto.specs.Sound.{IsSound, IsPlace}
use Rattle.cn_agree.specs.declared.local.Stage.{Stage}
use Rattle.cn_agree.specs.declared.local.Stage.TheVariants.{Write, Apply, Read, Take}
use Rattle.cn_agree.specs.declared.local.Local.{Local}
use Rattle.cn_agree.specs.declared.local.Local.TheVariants.{NotBegun, Active, Decided}
use Rattle.cn_agree.specs.declared.node.Node.{Node}
use Rattle.cn_agree.specs.World.{World, node_at, local_at, input_at, register, fresh_node}
use Rattle.cn_agree.specs.Steps.{after_action, first_recorded, after_step, after_step_from, after_begin}
use Rattle.cn_agree.specs.Reached.{IsReached, Opens, Begins, Steps}
use Rattle.cn_agree.specs.Consensus.{IsParticipant, occurrences}
use Rattle.cn_agree.specs.Rounds.{decision_of, decision_at, fixed_value, steps_taken, actions_done, IsAppliedAtRoot, KeepsConsensus}
use Rattle.cn_agree.proofs.Invariant.{LocalHolds, IsDone, first_team, first_value, fixed_at}
use Rattle.cn_agree.proofs.Actions.{registers_write, registers_apply}
use Rattle.cn_agree.proofs.StepCounts.{Kept, IsOneMore, one_more, other_local, inputs_step, first_step}
use Rattle.cn_agree.proofs.Values.{AreOf, step_of, are_more}
use Rattle.cn_agree.proofs.Reaching.{same_anywhere, empty_register, reached_kept, reached_steps, no_input, input_now, local_now}

-- the registers do not depend on the state in which an object starts
root_same : {V : Type 0} (P : ProtocolOfRounds) (w : World V) (team : Team) → register (slice_index_or w.nodes 0 (fresh_node 0)) team ≡ register (node_at P w 0) team
root_same {V = V} P w team = go w.nodes team
  where
    go : (nodes : List (Node V)) (team : Team) → register (slice_index_or nodes 0 (fresh_node 0)) team ≡ register (slice_index_or nodes 0 (fresh_node P.start)) team
    go [] A = refl
    go [] B = refl
    go (node ∷ nodes) team = refl

module _ {V : Type 0} (P : ProtocolOfRounds) (n nodes : ℕ) (team : ℕ → Team) (sound : IsSound P n nodes team) where
  registers_step : (w : World V) → Kept P n nodes team w → (p : ℕ) → p < n → (v : ℕ) (side : Team) (y : V) → register (node_at P w v) side ≡ Some y
      → register (node_at P (after_step P p w) v) side ≡ Some y
  registers_step w kept p lt v side y h = go (local_at w p) refl
    where
      read : (u : ℕ) (locals : List (Local V)) → register (node_at P (record w { nodes = slice_set w.nodes u (node_at P w u); locals = locals; first = w.first }) v) side ≡ Some y
      read u locals = rw (set-get_or w.nodes u (fresh_node P.start)) h

      staged : (i : ℕ) (x : V) (stage : Stage) → local_at w p ≡ Active i x stage → register (node_at P (after_action P p w i x stage (place_of P p i)) v) side ≡ Some y
      staged i x Write e = registers_write P n nodes team sound w kept.0 kept.1 p i lt x e v side y h
      staged i x Apply e = registers_apply P n nodes team sound w kept.0 kept.1 p i lt x e v side y h
      staged i x (Read response) e = read (place_of P p i).node w.locals
      staged i x (Take response state) e = read (place_of P p i).node w.locals

      go : (here : Local V) → local_at w p ≡ here → register (node_at P (after_step_from P p w here) v) side ≡ Some y
      go NotBegun e = h
      go (Active i x stage) e = staged i x stage e
      go (Decided y') e = h

  -- the fixed value stays
  pub fixed_stays : {schedule : List ℕ} {w : World V} → IsReached P n nodes schedule w → (p : ℕ) → p < n → (y : V) → fixed_value w ≡ Some y → fixed_value (after_step P p w) ≡ Some y
  fixed_stays {w = w} r p lt y h = go w.first refl
    where
      go : (first : Option Team) → w.first ≡ first → fixed_value (after_step P p w) ≡ Some y
      go None e = let h' : None ≡ Some y = rw e at h in absurd cc
      go (Some side) e =
          let at : register (slice_index_or w.nodes 0 (fresh_node 0)) side ≡ Some y = rw e at h in
          let now = registers_step w (reached_kept P n nodes team sound r) p lt 0 side y (sym (root_same P w side) ∙ at) in
          rw (first_step P p w side e) (root_same P (after_step P p w) side ∙ now)

  -- every decision is the fixed value
  pub decides_fixed : {schedule : List ℕ} {w : World V} → IsReached P n nodes schedule w → (p : ℕ) → p < n → (y : V) → decision_at w p ≡ Some y → fixed_value w ≡ Some y
  decides_fixed {w = w} r p lt y h =
      let k = reached_kept P n nodes team sound r in
      go (k.0 0) refl k.1.first_is (fixed_by k.0 (k.0 0) refl (decided_at k.0 (local_at w p) (k.1.local_holds p lt) h))
    where
      decided_at : (order : ℕ → List ℕ) (here : Local V) → LocalHolds P n team w order p here → decision_of here ≡ Some y → fixed_at P team w order 0 ≡ Some y
      decided_at order NotBegun l e = absurd cc
      decided_at order (Active i x stage) l e = absurd cc
      decided_at order (Decided z) l e = l ∙ e

      fixed_by : (order : ℕ → List ℕ) (roles : List ℕ) → order 0 ≡ roles → fixed_at P team w order 0 ≡ Some y → first_value team (node_at P w 0) roles ≡ Some y
      fixed_by order roles e l = rw e at l

      go : (roles : List ℕ) {all : List ℕ} → all ≡ roles → w.first ≡ first_team team all → first_value team (node_at P w 0) all ≡ Some y → fixed_value w ≡ Some y
      go [] e f l = let l' : None ≡ Some y = rw e at l in absurd cc
      go (head ∷ rest) e f l = let f' = rw e at f in let l' = rw e at l in rw f' (root_same P w (team head) ∙ l')

  -- a participant began with y
  abbrev IsInput : List ℕ → World V → V → Type 0
  IsInput schedule w y = (q : ℕ) × (q < n) × IsParticipant schedule q × (input_at w q ≡ Some y)

  abbrev IsOwn : World V → ℕ → V → Type 0
  IsOwn w q y = input_at w q ≡ Some y

  -- every value in a round is an input of a participant; only a process that has taken no step may have its own
  values_are : {schedule : List ℕ} {w : World V} → IsReached P n nodes schedule w → AreOf P (IsInput schedule w) (IsOwn w) w
  values_are Opens = record {
    registers = λ v side y h. absurd (empty_register P.start side y (rw same_anywhere at h));
    locals = λ p. rw (same_anywhere {A = Local V} n NotBegun p) tt;
  }
  values_are (Begins {schedule = schedule} {w = old} p x lt e r) =
      let are : AreOf P (IsInput schedule (after_begin p x old)) (IsOwn (after_begin p x old)) old =
      are_more P (IsInput schedule old) (IsInput schedule (after_begin p x old)) (IsOwn old) (IsOwn (after_begin p x old)) old (λ y i. (i.0, i.1, i.2, kept i.0 y i.3)) kept (values_are r) in
      record {
        registers = are.registers;
        locals = λ q. elim (cases_eq q p) [
          | inl same ↦ rw (same, local_now P n nodes team sound r p lt x) (inl (input_now P n nodes team sound r p lt x))
          | inr ne ↦ rw (get_or-set_other old.locals p q (Active 0 x Write) NotBegun ne) (are.locals q)
        ];
      }
    where
      kept : (q : ℕ) (y : V) → input_at old q ≡ Some y → input_at (after_begin p x old) q ≡ Some y
      kept q y h = elim (cases_eq q p) [
        | inl same ↦ absurd (let a : input_at old p ≡ Some y = rw same at h in let b = no_input P n nodes team sound r p lt e in cc (a, b))
        | inr ne ↦ get_or-set_other old.inputs p q (Some x) None ne ∙ h
      ]
  values_are (Steps {schedule = schedule} {w = old} p lt b r) =
      let schedule' : List ℕ = schedule ++ p ∷ [] in
      let are : AreOf P (IsInput schedule' old) (IsOwn old) old =
      are_more P (IsInput schedule old) (IsInput schedule' old) (IsOwn old) (IsOwn old) old (λ y i. (i.0, i.1, Contains-append_left schedule (p ∷ []) i.0 i.2, i.3)) (λ q y o. o) (values_are r) in
      let T : List (Option V) → Type 0 = λ inputs. AreOf P (λ y. (q : ℕ) × (q < n) × IsParticipant schedule' q × (slice_index_or inputs q None ≡ Some y))
      (λ q y. slice_index_or inputs q None ≡ Some y) (after_step P p old) in
      subst T (sym (inputs_step P p old)) (step_of P (IsInput schedule' old) (IsOwn old) old are p (λ y o. (p, lt, Contains-append_right schedule (p ∷ []) p (0, omega arith, refl), o)))

  -- the fixed value is the input of a participant
  pub fixed_valid : {schedule : List ℕ} {w : World V} → IsReached P n nodes schedule w → (y : V) → fixed_value w ≡ Some y → IsInput schedule w y
  fixed_valid {schedule = schedule} {w = w} r y h = go w.first refl
    where
      go : (first : Option Team) → w.first ≡ first → IsInput schedule w y
      go None e = let h' : None ≡ Some y = rw e at h in absurd cc
      go (Some side) e = let at : register (slice_index_or w.nodes 0 (fresh_node 0)) side ≡ Some y = rw e at h in (values_are r).registers 0 side y (sym (root_same P w side) ∙ at)

  -- if p has applied at its place i, and this is the root, a team is recorded
  abbrev AppliesFirst : World V → ℕ → ℕ → Type 0
  AppliesFirst w p i = IsPlace P n p i → (place_of P p i).node ≡ 0 → 4 * i + 2 ≤ steps_taken P p (local_at w p) → (side : Team) × (w.first ≡ Some side)

  applied_first : {schedule : List ℕ} {w : World V} → IsReached P n nodes schedule w → (q i : ℕ) → IsPlace P n q i → (place_of P q i).node ≡ 0
      → 4 * i + 2 ≤ steps_taken P q (local_at w q) → (side : Team) × (w.first ≡ Some side)
  applied_first Opens q i at root le = absurd (let le' : 4 * i + 2 ≤ 0 = rw (same_anywhere {A = Local V} n NotBegun q) at le in omega arith)
  applied_first (Begins {w = old} p x lt e r) q i at root le = elim (cases_eq q p) [
    | inl same ↦ absurd (fresh q same le)
    | inr ne ↦ applied_first r q i at root (rw (get_or-set_other old.locals p q (Active 0 x Write) NotBegun ne) at le)
  ]
    where
      fresh : (q : ℕ) → q ≡ p → 4 * i + 2 ≤ steps_taken P q (local_at (after_begin p x old) q) → ⊥
      fresh q same le = let le' : 4 * i + 2 ≤ 4 * 0 + 0 = rw (same, local_now P n nodes team sound r p lt x) at le in omega arith
  applied_first (Steps {schedule = schedule} {w = old} p lt b r) q i at root le = elim (cases_eq q p) [
    | inl same ↦ mine q same at root le (λ at root le. applied_first r p i at root le)
    | inr ne ↦ later (applied_first r q i at root (rw (other_local P old p q ne) at le))
  ]
    where
      later : (side : Team) × (old.first ≡ Some side) → (side : Team) × ((after_step P p old).first ≡ Some side)
      later f = (f.0, first_step P p old f.0 f.1)

      here_recorded : (first : Option Team) (node : ℕ) (side : Team) → node ≡ 0 → (t : Team) × (first_recorded first node side ≡ Some t)
      here_recorded None zero side e = (side, refl)
      here_recorded None (suc node) side e = absurd (omega arith)
      here_recorded (Some t) node side e = (t, refl)

      staged : (j : ℕ) (x : V) (stage : Stage) → local_at old p ≡ Active j x stage → IsPlace P n p i → (place_of P p i).node ≡ 0 → 4 * i + 2 ≤ suc (4 * j + actions_done stage) → AppliesFirst old p i
          → (side : Team) × ((after_action P p old j x stage (place_of P p j)).first ≡ Some side)
      staged j x Write e at root le before = before at root (rw e (omega arith))
      staged j x Apply e at root le before = elim (cases_eq i j) [
        | inl same ↦ here_recorded old.first (place_of P p j).node (place_of P p j).team (rw same at root)
        | inr ne ↦ (let f = before at root (rw e (omega arith)) in (f.0, rw f.1 refl))
      ]
      staged j x (Read response) e at root le before = before at root (rw e (omega arith))
      staged j x (Take response state) e at root le before = before at root (rw e (omega arith))

      went : (here : Local V) → local_at old p ≡ here → IsOneMore P n nodes team sound p here (local_at (after_step P p old) p) → IsPlace P n p i → (place_of P p i).node ≡ 0
          → 4 * i + 2 ≤ steps_taken P p (local_at (after_step P p old) p)
          → AppliesFirst old p i → (side : Team) × ((after_step_from P p old here).first ≡ Some side)
      went NotBegun e one at root le before = absurd (b e)
      went (Active j x stage) e one at root le before = staged j x stage e at root (let count = one.0 in omega arith) before
      went (Decided y) e one at root le before = before at root (rw e (rw one at le))

      mine : (q : ℕ) → q ≡ p → IsPlace P n q i → (place_of P q i).node ≡ 0 → 4 * i + 2 ≤ steps_taken P q (local_at (after_step P p old) q) → AppliesFirst old p i
          → (side : Team) × ((after_step P p old).first ≡ Some side)
      mine q same at root le before =
          went (local_at old p) refl (one_more P n nodes team sound old (reached_kept P n nodes team sound r) p lt) (rw same at at) (rw same at root) (rw same at le) before

  fixed_when : {schedule : List ℕ} {w : World V} → IsReached P n nodes schedule w → IsAppliedAtRoot P n w → IsSome (fixed_value w)
  fixed_when {w = w} r applied =
      let k = reached_kept P n nodes team sound r in
      let f = applied_first r applied.process applied.place applied.is_place applied.root applied.applied in
      go (k.0 0) (k.0 0) refl f.0 f.1 k.1.first_is (k.1.written 0)
    where
      some : (found : Option V) (y : V) → found ≡ Some y → IsSome found
      some found y e = rw e refl

      go : (roles all : List ℕ) → all ≡ roles → (side : Team) → w.first ≡ Some side → w.first ≡ first_team team all
          → ((head : ℕ) (rest : List ℕ) → all ≡ head ∷ rest → (y : V) × (register (node_at P w 0) (team head) ≡ Some y))
          → IsSome (fixed_value w)
      go [] all e side f is written = absurd (let none : w.first ≡ None = rw e at is in cc)
      go (head ∷ rest) all e side f is written =
          let y = written head rest e in
          let first : w.first ≡ Some (team head) = rw e at is in
          some (fixed_value w) y.0 (rw first (root_same P w (team head) ∙ y.1))

  applied_when : {schedule : List ℕ} {w : World V} → IsReached P n nodes schedule w → IsSome (fixed_value w) → IsAppliedAtRoot P n w
  applied_when {w = w} r some =
      let k = reached_kept P n nodes team sound r in
      go (k.0 0) refl k.1.first_is (k.1.done 0 0)
    where
      nothing : w.first ≡ None → IsSome (fixed_value w) → ⊥
      nothing e s = let s' : IsSome {T = V} None = rw e at s in true≢false (sym s')

      go : (roles : List ℕ) {all : List ℕ} → all ≡ roles → w.first ≡ first_team team all → ((role : ℕ) → slice_get all 0 ≡ Some role → IsDone P n w 0 role) → IsAppliedAtRoot P n w
      go [] e f done = absurd (nothing (rw e at f) some)
      go (head ∷ rest) e f done = let d = done head (rw e refl) in record { process = d.by; place = d.at; is_place = d.place; root = d.node; applied = d.applied }

  decided_when : {schedule : List ℕ} {w : World V} → IsReached P n nodes schedule w → (p : ℕ) → p < n → IsSome (decision_at w p) ↔ (4 * length (P.path p) ≤ occurrences schedule p)
  decided_when {schedule = schedule} {w = w} r p lt =
      go (local_at w p) ((reached_kept P n nodes team sound r).1.local_holds p lt) (reached_steps P n nodes team sound r p lt)
    where
      order : ℕ → List ℕ
      order = (reached_kept P n nodes team sound r).0

      stages : (stage : Stage) → actions_done stage < 4
      stages Write = omega arith
      stages Apply = omega arith
      stages (Read response) = omega arith
      stages (Take response state) = omega arith

      go : (here : Local V) → LocalHolds P n team w (reached_kept P n nodes team sound r).0 p here → steps_taken P p here ≡ min (occurrences schedule p) (4 * length (P.path p))
          → IsSome (decision_of here)
          ↔ (4 * length (P.path p) ≤ occurrences schedule p)
      go NotBegun h e = (λ s. absurd (true≢false (sym s)), λ le. absurd (let some = sound.starts p lt in omega arith))
      go (Active i y stage) h e = (λ s. absurd (true≢false (sym s)), λ le. absurd (let l = h.0.1 in let s = stages stage in omega arith))
      go (Decided y) h e = (λ s. omega arith, λ le. refl)

  pub keeps_consensus : {schedule : List ℕ} {w : World V} → IsReached P n nodes schedule w → KeepsConsensus P n schedule w
  keeps_consensus {w = w} r = record {
    decisions = λ p x e. decides_fixed r p (process p x e) x e;
    valid = λ x e. fixed_valid r x e;
    since = (applied_when r, fixed_when r);
    in_time = decided_when r;
    steps = reached_steps P n nodes team sound r;
  }
    where
      -- a process that has decided is one of the n
      process : (p : ℕ) (x : V) → decision_at w p ≡ Some x → p < n
      process p x e = rw (← (reached_kept P n nodes team sound r).1.locals_are) (within w.locals p e)
        where
          within : (locals : List (Local V)) (p : ℕ) → decision_of (slice_index_or locals p NotBegun) ≡ Some x → p < length locals
          within [] p e = absurd cc
          within (l ∷ locals) zero e = omega arith
          within (l ∷ locals) (suc p) e = let k = within locals p e in omega arith
