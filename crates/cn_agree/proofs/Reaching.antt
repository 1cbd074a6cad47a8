-- The invariant holds in every world that a round can reach.
use Rattle.std.proofs.Common.{ℕ, zero, suc, ◌≡◌, ◌≢◌, inl, inr, ◌+◌, ◌*◌, ◌<◌, ◌≤◌, List, [], length, replicate, slice_index_or, min, Option, Some, None, refl, sym, ap, ◌∙◌, arith, append-nil, length-set, get_or-set_same, get_or-set_other}
use Rattle.std.proofs.lemmas.List.{length-replicate}
use Rattle.std.proofs.lemmas.Bool.{cases_eq}
use Rattle.cn_choice.specs.declared.team.Team.{Team}
use Rattle.cn_choice.specs.declared.team.Team.TheVariants.{A, B}
use Rattle.cn_agree.specs.declared.local.Stage.TheVariants.{Write}
use Rattle.cn_agree.specs.declared.local.Local.{Local}
use Rattle.cn_agree.specs.declared.local.Local.TheVariants.{NotBegun, Active}
use Rattle.cn_agree.specs.declared.node.Node.{Node}
use Rattle.cn_proto.specs.Protocol.{ProtocolOfRounds}
use Rattle.cn_agree.specs.World.{World, node_at, local_at, input_at, register, fresh_node}
use Rattle.cn_agree.specs.Steps.{after_step, after_begin}
use Rattle.cn_proto.specs.Order.{after}
use Rattle.cn_proto.specs.Sound.{IsSound}
use Rattle.cn_agree.specs.Reached.{IsReached, Opens, Begins, Steps, first_world, HasBegun}
use Rattle.cn_agree.specs.Consensus.{occurrences}
use Rattle.cn_agree.proofs.Invariant.{Holds, Grows}
use Rattle.cn_agree.specs.Rounds.{steps_taken}
use Rattle.cn_agree.proofs.Growing.{brings_grows, local_grows}
use Rattle.cn_agree.proofs.Lists.{count_here, count_elsewhere}
use Rattle.cn_agree.proofs.StepCounts.{Kept, keeps_step, other_local, inputs_step, step_count}

pub same_anywhere : {A : Type 0} (n : ℕ) (a : A) (v : ℕ) → slice_index_or (replicate n a) v a ≡ a
same_anywhere zero a v = refl
same_anywhere (suc n) a zero = refl
same_anywhere (suc n) a (suc v) = same_anywhere n a v

pub empty_register : {V : Type 0} (start : ℕ) (side : Team) (y : V) → register (fresh_node start) side ≢ Some y
empty_register start A y h = cc
empty_register start B y h = cc

module _ {V : Type 0} (P : ProtocolOfRounds) (n nodes : ℕ) (team : ℕ → Team) (sound : IsSound P n nodes team) where
  keeps_begun : (w : World V) (order : ℕ → List ℕ) → Holds P n nodes team w order → (p : ℕ) → p < n → local_at w p ≡ NotBegun → (x : V) → Holds P n nodes team (after_begin p x w) order
  keeps_begun w order holds p lt e x = record {
    nodes_are = holds.nodes_are;
    locals_are = length-set w.locals p (Active 0 x Write) ∙ holds.locals_are;
    inputs_are = length-set w.inputs p (Some x) ∙ holds.inputs_are;
    first_is = holds.first_is;
    moved = holds.moved;
    distinct = holds.distinct;
    done = λ v k role h. (let d = holds.done v k role h in record {
      by = d.by;
      at = d.at;
      place = d.place;
      node = d.node;
      role_is = d.role_is;
      applied = elim (cases_eq d.by p) [ inl same ↦ absurd (none_yet d.by d.at same d.applied) | inr ne ↦ rw (other d.by ne) d.applied ];
    });
    written = holds.written;
    brought = λ v side y h. (let b = holds.brought v side y h in record {
      by = b.by;
      at = b.at;
      place = b.place;
      node = b.node;
      team_is = b.team_is;
      brings = brings_grows P n team w order (after_begin p x w) order grows b.by b.at y b.brings;
    });
    local_holds = λ q lq. elim (cases_eq q p) [
      | inl same ↦ rw (same, get_or-set_same w.locals p (Active 0 x Write) NotBegun (rw holds.locals_are lt))
          ((lt, sound.starts p lt), get_or-set_same w.inputs p (Some x) None (rw holds.inputs_are lt), tt)
      | inr ne ↦ rw (other q ne) (local_grows P n team w order (after_begin p x w) order grows q (local_at w q) (λ f. get_or-set_other w.inputs p q (Some x) None ne) (holds.local_holds q lq))
    ];
  }
    where
      other : (q : ℕ) → q ≢ p → local_at (after_begin p x w) q ≡ local_at w q
      other q ne = get_or-set_other w.locals p q (Active 0 x Write) NotBegun ne

      none_yet : (q at : ℕ) → q ≡ p → 4 * at + 2 ≤ steps_taken P q (local_at w q) → ⊥
      none_yet q at same h = let h' : 4 * at + 2 ≤ 0 = rw (same, e) at h in omega arith

      fresh : input_at w p ≡ None
      fresh = rw e at (holds.local_holds p lt)

      grows : Grows P w order (after_begin p x w) order
      grows = record {
        registers = λ v side y h. h;
        inputs = λ q y h. elim (cases_eq q p) [ inl same ↦ absurd (let f : input_at w p ≡ Some y = rw same at h in cc (f, fresh)) | inr ne ↦ rw (get_or-set_other w.inputs p q (Some x) None ne) h ];
        orders = λ v. ([], sym (append-nil (order v)));
      }

  first_holds : Holds {V = V} P n nodes team (first_world P n nodes) (λ v. [])
  first_holds = record {
    nodes_are = length-replicate nodes (fresh_node P.start);
    locals_are = length-replicate n NotBegun;
    inputs_are = length-replicate n None;
    first_is = refl;
    moved = λ v. ap (λ (node : Node V). node.state.0) (same_anywhere nodes (fresh_node P.start) v);
    distinct = λ v i j d lt below. absurd (omega arith);
    done = λ v k role h. absurd cc;
    written = λ v head rest h. absurd cc;
    brought = λ v side y h. absurd (empty_register P.start side y (rw same_anywhere at h));
    local_holds = λ p lt. rw (same_anywhere {A = Local V} n NotBegun p) (same_anywhere {A = Option V} n None p);
  }

  pub reached_kept : {schedule : List ℕ} {w : World V} → IsReached P n nodes schedule w → Kept P n nodes team w
  reached_kept Opens = (λ v. [], first_holds)
  reached_kept (Begins {w = w} p x lt e r) = let k = reached_kept r in (k.0, keeps_begun w k.0 k.1 p lt e x)
  reached_kept (Steps {w = w} p lt b r) = keeps_step P n nodes team sound w (reached_kept r) p lt

  pub nodes_are : {schedule : List ℕ} {w : World V} → IsReached P n nodes schedule w → length w.nodes ≡ nodes
  nodes_are r = (reached_kept r).1.nodes_are

  pub locals_are : {schedule : List ℕ} {w : World V} → IsReached P n nodes schedule w → length w.locals ≡ n
  locals_are r = (reached_kept r).1.locals_are

  pub inputs_are : {schedule : List ℕ} {w : World V} → IsReached P n nodes schedule w → length w.inputs ≡ n
  inputs_are r = (reached_kept r).1.inputs_are

  -- the state of a node comes from the roles applied there; any bound on the states that roles lead to bounds it
  pub state_below : {schedule : List ℕ} {w : World V} → IsReached P n nodes schedule w → (bound : ℕ) → ((order : List ℕ) → after P.act P.start order < bound) → (v : ℕ)
      → (node_at P w v).state.0 < bound
  state_below r bound all v = let k = reached_kept r in rw (k.1.moved v) (all (k.0 v))

  pub begun_stays : {schedule : List ℕ} {w : World V} → IsReached P n nodes schedule w → (p q : ℕ) → p < n → HasBegun w q → HasBegun (after_step P p w) q
  begun_stays {w = w} r p q lt begun = elim (cases_eq q p) [
    | inl same ↦ mine q same begun
    | inr ne ↦ (λ e. begun (sym (other_local P w p q ne) ∙ e))
  ]
    where
      mine : (q : ℕ) → q ≡ p → HasBegun w q → HasBegun (after_step P p w) q
      mine q same b = rw same (step_count P n nodes team sound w (reached_kept r) p lt (rw same at b)).0

  -- a process that has not begun has no input
  pub no_input : {schedule : List ℕ} {w : World V} → IsReached P n nodes schedule w → (p : ℕ) → p < n → local_at w p ≡ NotBegun → input_at w p ≡ None
  no_input r p lt e = rw e at ((reached_kept r).1.local_holds p lt)

  pub input_now : {schedule : List ℕ} {w : World V} → IsReached P n nodes schedule w → (p : ℕ) → p < n → (x : V) → input_at (after_begin p x w) p ≡ Some x
  input_now {w = w} r p lt x = get_or-set_same w.inputs p (Some x) None (rw (inputs_are r) lt)

  pub local_now : {schedule : List ℕ} {w : World V} → IsReached P n nodes schedule w → (p : ℕ) → p < n → (x : V) → local_at (after_begin p x w) p ≡ Active 0 x Write
  local_now {w = w} r p lt x = get_or-set_same w.locals p (Active 0 x Write) NotBegun (rw (locals_are r) lt)

  -- and the converse
  pub not_begun : {schedule : List ℕ} {w : World V} → IsReached P n nodes schedule w → (q : ℕ) → q < n → input_at w q ≡ None → local_at w q ≡ NotBegun
  not_begun Opens q lq h = same_anywhere {A = Local V} n NotBegun q
  not_begun (Begins {w = old} p x lt e r) q lq h = elim (cases_eq q p) [
    | inl same ↦ absurd (let a : input_at (after_begin p x old) p ≡ None = rw same at h in let b = input_now r p lt x in cc (a, b))
    | inr ne ↦ get_or-set_other old.locals p q (Active 0 x Write) NotBegun ne ∙ not_begun r q lq (sym (get_or-set_other old.inputs p q (Some x) None ne) ∙ h)
  ]
  not_begun (Steps {w = old} p lt after_begin r) q lq h =
      let was : local_at old q ≡ NotBegun = not_begun r q lq (ap (λ (is : List (Option V)). slice_index_or is q None) (sym (inputs_step P p old)) ∙ h) in
      elim (cases_eq q p) [
        | inl same ↦ absurd (after_begin (rw same at was))
        | inr ne ↦ other_local P old p q ne ∙ was
      ]

  -- a process has taken a step for each time that the schedule names it, up to its last step
  pub reached_steps : {schedule : List ℕ} {w : World V} → IsReached P n nodes schedule w → (q : ℕ) → q < n → steps_taken P q (local_at w q) ≡ min (occurrences schedule q) (4 * length (P.path q))
  reached_steps Opens q lq = rw (same_anywhere {A = Local V} n NotBegun q) (omega arith)
  reached_steps (Begins {schedule = schedule} {w = old} p x lt e r) q lq =
      let before = reached_steps r q lq in
      elim (cases_eq q p) [
        | inl same ↦ (let none : steps_taken P p (local_at old p) ≡ min (occurrences schedule p) (4 * length (P.path p)) = rw same at before in
            let none' : 0 ≡ min (occurrences schedule p) (4 * length (P.path p)) = rw e at none in
            rw (same, local_now r p lt x) (omega arith))
        | inr ne ↦ rw (get_or-set_other old.locals p q (Active 0 x Write) NotBegun ne) before
      ]
  reached_steps (Steps {schedule = schedule} {w = old} p lt after_begin r) q lq =
      let before = reached_steps r q lq in
      elim (cases_eq q p) [
        | inl same ↦ (let was : steps_taken P p (local_at old p) ≡ min (occurrences schedule p) (4 * length (P.path p)) = rw same at before in
            let now = (step_count P n nodes team sound old (reached_kept r) p lt after_begin).1 in
            let more = count_here p p schedule refl in
            rw same (omega arith))
        | inr ne ↦ rw (other_local P old p q ne, count_elsewhere q p schedule (λ e. ne (sym e))) before
      ]
