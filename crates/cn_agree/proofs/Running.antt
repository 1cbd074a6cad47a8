-- A round while a schedule runs.
use Rattle.std.proofs.Common.{ℕ, zero, suc, ◌≡◌, ◌+◌, ◌<◌, List, [], ◌∷◌, ◌++◌, length, drop, replicate, get_or, Option, Some, None, refl, sym, ap, ◌∙◌, subst, arith, Bool, true, false, cond, nat_le, nat_eq, option_map, position, is_some, length-set}
use Rattle.std.specs.List.{position_from}
use Rattle.cn_agree.specs.Consensus.{IsSchedule}
use Rattle.std.proofs.lemmas.Iterator.Adapters.{position_from-zero}
use Rattle.std.proofs.lemmas.Bool.Decides.{nat_tests}
use Rattle.cn_agree.specs.declared.fault.ScheduleFault.TheVariants.{InputCount, NoSuchProcess}
use Rattle.cn_agree.specs.Schedules.{all_begun, process_fault, schedule_fault}
use Rattle.std.proofs.lemmas.List.Elements.{All-from_recursion}
use Rattle.cn_table.specs.declared.elements.State.{State}
use Rattle.cn_proto.specs.Sound.{IsSound}
use Rattle.cn_agree.specs.declared.node.Node.{Node}
use Rattle.cn_proto.specs.Plan.{Plan, IsPlan, protocol_of, processes_of, nodes_of}
use Rattle.cn_proto.specs.Tournament.{team_of}
use Rattle.cn_agree.specs.declared.local.Local.{Local}
use Rattle.cn_agree.specs.declared.local.Local.TheVariants.{NotBegun, Active, Decided}
use Rattle.cn_agree.specs.World.{World, local_at, fresh_node}
use Rattle.cn_agree.specs.Steps.{after_begin, after_step, after_step_from, after_schedule}
use Rattle.cn_agree.specs.Reached.{first_world, Opens}
use Rattle.cn_agree.specs.Rounds.{decision_of, decision_at, IsRoundOf, RunsBy}
use Rattle.cn_agree.specs.Beginning.{AllHaveBegun, HaveBegun}
use Rattle.cn_agree.proofs.Reaching.{begun_stays}
use Rattle.cn_agree.proofs.Beginning.{next_begins, all_is, begun_all}
use Rattle.cn_agree.proofs.PlanRounds.{processes_are, round_steps}

pub one_more_begun : {V : Type 0} (plan : Plan) (inputs : List V) (i p : ℕ) (x : V) (w w' : World V) → length inputs ≡ processes_of plan → i < processes_of plan
    → HaveBegun plan inputs i w → p ≡ i → x ≡ get_or inputs i x → w' ≡ after_begin p x w
    → IsRoundOf plan [] w'
    → HaveBegun plan inputs (i + 1) w'
one_more_begun plan inputs i p x w w' many lt h e read is r = record {
  is = is ∙ ap (λ k. after_begin k x w) e ∙ ap (after_begin i x) h.is ∙ next_begins (protocol_of plan) (processes_of plan) (nodes_of plan) inputs many i x lt read;
  round = r;
}

pub all_have_begun : {V : Type 0} (plan : Plan) (inputs : List V) (w : World V) → length inputs ≡ processes_of plan → HaveBegun plan inputs (processes_of plan) w → AllHaveBegun (processes_of plan) w
all_have_begun plan inputs w many h p lt e =
    begun_all (protocol_of plan) (processes_of plan) (nodes_of plan) inputs many p lt
    (ap (λ u. local_at u p) (sym (h.is ∙ all_is (protocol_of plan) (processes_of plan) (nodes_of plan) inputs many)) ∙ e)

-- the state of a run after k steps of the schedule
pub record HasRun {V : Type 0} (plan : Plan) (from : World V) (schedule : List ℕ) (k : ℕ) (w : World V) : Type 0 where
  pub rest : after_schedule (protocol_of plan) (drop k schedule) w ≡ after_schedule (protocol_of plan) schedule from
  pub runs : RunsBy plan w
  pub begun : AllHaveBegun (processes_of plan) w

drop_schedule : {V : Type 0} (plan : Plan) (schedule : List ℕ) (k d : ℕ) → k < length schedule → (w : World V)
    → after_schedule (protocol_of plan) (drop k schedule) w ≡ after_schedule (protocol_of plan) (drop (suc k) schedule) (after_step (protocol_of plan) (get_or schedule k d) w)
drop_schedule plan [] k d less w = absurd (omega arith)
drop_schedule plan (q ∷ schedule) zero d less w = refl
drop_schedule plan (q ∷ schedule) (suc k) d less w = drop_schedule plan schedule k d (omega arith) w

-- the step of a process that has decided changes nothing
pub stays_decided : {V : Type 0} (plan : Plan) (p : ℕ) (w : World V) (found : Option V) → is_some found ≡ true → found ≡ decision_at w p → w ≡ after_step (protocol_of plan) p w
stays_decided {V = V} plan p w found e f = go (local_at w p) (ap is_some (sym f) ∙ e)
  where
    go : (here : Local V) → is_some (decision_of here) ≡ true → w ≡ after_step_from (protocol_of plan) p w here
    go NotBegun h = absurd cc
    go (Active i x stage) h = absurd cc
    go (Decided z) h = refl

-- the turn of a process of the plan
pub turn_runs : {V : Type 0} (plan : Plan) (p : ℕ) (w w' : World V) → RunsBy plan w → AllHaveBegun (processes_of plan) w → p < processes_of plan
    → w' ≡ after_step (protocol_of plan) p w → RunsBy plan w'
turn_runs {V = V} plan p w w' runs begun lt e =
    let T : World V → Type 0 = IsRoundOf plan (runs.0 ++ p ∷ []) in
    (runs.0 ++ p ∷ [], subst T (sym e) (round_steps plan runs.0 w runs.1 p lt (begun p lt)))

pub turn_begun : {V : Type 0} (plan : Plan) (p : ℕ) (w w' : World V) → RunsBy plan w → AllHaveBegun (processes_of plan) w → p < processes_of plan
    → w' ≡ after_step (protocol_of plan) p w → AllHaveBegun (processes_of plan) w'
turn_begun {V = V} plan p w w' runs begun lt e =
    let r = runs.1 in
    let B : World V → Type 0 = AllHaveBegun (processes_of plan) in
    subst B (sym e) (λ q lq. begun_stays (protocol_of plan) (processes_of plan) (nodes_of plan) (team_of (length plan.choice.a)) r.sound r.reached p q lt (begun q lq))

pub one_more_run : {V : Type 0} (plan : Plan) (from : World V) (schedule : List ℕ) (k p : ℕ) (w w' : World V) → k < length schedule → IsSchedule (processes_of plan) schedule
    → p ≡ get_or schedule k 0 → HasRun plan from schedule k w
    → w' ≡ after_step (protocol_of plan) p w → HasRun plan from schedule (k + 1) w'
one_more_run plan from schedule k p w w' less all read h e =
    let lt : p < processes_of plan = rw read (All-from_recursion (λ q. q < processes_of plan) schedule all k 0 less) in
    let suc_is : k + 1 ≡ suc k = omega arith in
    record {
      rest = rw suc_is (ap (after_schedule (protocol_of plan) (drop (suc k) schedule)) e ∙ ap (λ q. after_schedule (protocol_of plan) (drop (suc k) schedule) (after_step (protocol_of plan) q w)) read
          ∙ sym (drop_schedule plan schedule k 0 less w) ∙ h.rest);
      runs = turn_runs plan p w w' h.runs h.begun lt e;
      begun = turn_begun plan p w w' h.runs h.begun lt e;
    }

-- the world of the full vectors is the first world
pub first_is : {V : Type 0} (plan : Plan) (nodes : List (Node V)) (locals : List (Local V)) (inputs : List (Option V)) (start : State) (k n : ℕ)
    → start.0 ≡ (protocol_of plan).start → k ≡ nodes_of plan → n ≡ processes_of plan
    → nodes ≡ replicate k (record { state = start; register_a = None; register_b = None }) → locals ≡ replicate n NotBegun → inputs ≡ replicate n None
    → record { nodes = nodes; locals = locals; inputs = inputs; first = None } ≡ first_world (protocol_of plan) (processes_of plan) (nodes_of plan)
first_is plan nodes locals inputs start k n s e f a b c =
    let fresh_is : record { state = start; register_a = None; register_b = None } ≡ fresh_node (protocol_of plan).start =
    (λ d. record { state = record { 0 = s d }; register_a = None; register_b = None }) in
    let nodes_are : nodes ≡ replicate (nodes_of plan) (fresh_node (protocol_of plan).start) = a
    ∙ ap (λ m. replicate m (record { state = start; register_a = None; register_b = None })) e ∙ ap (replicate (nodes_of plan)) fresh_is in
    let locals_are : locals ≡ replicate (processes_of plan) NotBegun = b ∙ ap (λ m. replicate m NotBegun) f in
    let inputs_are : inputs ≡ replicate (processes_of plan) None = c ∙ ap (λ m. replicate m None) f in
    λ d. record { nodes = nodes_are d; locals = locals_are d; inputs = inputs_are d; first = None }

pub opens : {V : Type 0} (plan : Plan) → IsPlan plan → IsSound (protocol_of plan) (processes_of plan) (nodes_of plan) (team_of (length plan.choice.a))
    → IsRoundOf {V = V} plan [] (first_world (protocol_of plan) (processes_of plan) (nodes_of plan))
opens plan is_plan sound = record { is_plan = is_plan; sound = sound; reached = Opens }

-- a schedule without a stranger names only processes
no_stranger_from : (n i : ℕ) (schedule : List ℕ) → position_from (λ p. nat_le n p) i schedule ≡ None → IsSchedule n schedule
no_stranger_from n i [] h = tt
no_stranger_from n i (p ∷ schedule) h = by_test (nat_le n p) refl h (no_stranger_from n (i + 1) schedule)
  where
    by_test : (b : Bool) → nat_le n p ≡ b → cond b (Some i) (position_from (λ p. nat_le n p) (i + 1) schedule) ≡ None
        → (position_from (λ p. nat_le n p) (i + 1) schedule ≡ None → IsSchedule n schedule) → (p < n) × IsSchedule n schedule
    by_test true is h rest = absurd cc
    by_test false is h rest = ((let lt : p < n = grind (arith, nat_tests) in lt), rest h)

pub none_stranger : (n : ℕ) (schedule : List ℕ) → position (λ p. nat_le n p) schedule ≡ None → IsSchedule n schedule
none_stranger n schedule h = no_stranger_from n 0 schedule (sym (position_from-zero (λ p. nat_le n p) schedule) ∙ h)

pub no_stranger : {V : Type 0} (n : ℕ) (inputs : List V) (schedule : List ℕ) → schedule_fault n inputs schedule ≡ None → IsSchedule n schedule
no_stranger n inputs schedule h = by_count (nat_eq (length inputs) n) refl h
  where
    none : (found : Option ℕ) → option_map (λ place. NoSuchProcess place) found ≡ None → found ≡ None
    none None e = refl
    none (Some place) e = absurd cc

    by_count : (b : Bool) → nat_eq (length inputs) n ≡ b → cond b (process_fault n schedule) (Some InputCount) ≡ None → IsSchedule n schedule
    by_count true is e = none_stranger n schedule (none (position (λ p. nat_le n p) schedule) e)
    by_count false is e = absurd cc

-- a schedule keeps the number of local states
pub locals_schedule : {V : Type 0} (plan : Plan) (schedule : List ℕ) (w : World V) → length (after_schedule (protocol_of plan) schedule w).locals ≡ length w.locals
locals_schedule plan [] w = refl
locals_schedule {V = V} plan (p ∷ schedule) w = locals_schedule plan schedule (after_step (protocol_of plan) p w) ∙ go (local_at w p)
  where
    go : (here : Local V) → length (after_step_from (protocol_of plan) p w here).locals ≡ length w.locals
    go NotBegun = refl
    go (Active i x stage) = length-set w.locals p _
    go (Decided y) = refl

pub many_are : {V : Type 0} (plan : Plan) (inputs : List V) (schedule : List ℕ) (w w' : World V) → HaveBegun plan inputs (processes_of plan) w
    → w' ≡ after_schedule (protocol_of plan) schedule w → length w'.locals ≡ processes_of plan
many_are {V = V} plan inputs schedule w w' h e =
    ap (λ (u : World V). length u.locals) e ∙ locals_schedule plan schedule w ∙ processes_are plan [] w h.round

pub begun_is : {V : Type 0} (plan : Plan) (inputs : List V) (w : World V) → length inputs ≡ processes_of plan → HaveBegun plan inputs (processes_of plan) w
    → w ≡ all_begun (protocol_of plan) (nodes_of plan) inputs
begun_is plan inputs w many h = h.is ∙ all_is (protocol_of plan) (processes_of plan) (nodes_of plan) inputs many

pub world_is : {V : Type 0} (plan : Plan) (inputs : List V) (schedule : List ℕ) (w w' : World V) → length inputs ≡ processes_of plan → HaveBegun plan inputs (processes_of plan) w
    → w' ≡ after_schedule (protocol_of plan) schedule w
    → w' ≡ after_schedule (protocol_of plan) schedule (all_begun (protocol_of plan) (nodes_of plan) inputs)
world_is plan inputs schedule w w' many h e =
    e ∙ ap (after_schedule (protocol_of plan) schedule) (begun_is plan inputs w many h)

pub right_count : {V : Type 0} (n : ℕ) (inputs : List V) (schedule : List ℕ) → schedule_fault n inputs schedule ≡ None → length inputs ≡ n
right_count n inputs schedule h = by_count (nat_eq (length inputs) n) refl h
  where
    by_count : (b : Bool) → nat_eq (length inputs) n ≡ b → cond b (process_fault n schedule) (Some InputCount) ≡ None → length inputs ≡ n
    by_count true is e = grind (arith, nat_tests)
    by_count false is e = absurd cc
