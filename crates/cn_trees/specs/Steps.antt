-- The steps of processes along a plan tree: one atomic action of one process at a time.
-- Source: Ruppert, Determining consensus numbers, 2000, with a look in place of a read. That a
-- process need not look is new here.
use Rattle.std.specs.Prelude.{ℕ, ◌+◌, List, [], ◌∷◌, length, nat_lt, if◌then◌else◌, Bool, Option}
use Rattle.std.specs.Prelude.{Some, None}
use Rattle.cn_unread.specs.Functions.{put}
use Rattle.cn_meetings.specs.Meeting.{act, looks, see}
use Rattle.cn_trees.specs.Tree.{Place, PlanTree, path_of, place_of}

-- the next action of a process at its place, with what it keeps for it: it writes its value to the
-- register of its team; it applies its operation; it looks at the object, with the response; it
-- reads the register of the team that it judges by the response, and by what it saw, to have come
-- first
pub data Stage : Type 0 where
  Write : Stage
  Apply : Stage
  Look : ℕ → Stage
  Take : ℕ → ℕ → Stage

-- the local state of a process: it is at this place of its path with this value, or it has decided
pub data Local (V : Type 0) : Type 0 where
  Active : ℕ → V → Stage → Local V
  Decided : V → Local V

-- the state of the object of each node, the register of each team at each node, and the local state
-- of each process
pub record World (V : Type 0) : Type 0 where
  pub states : ℕ → ℕ
  pub registers : ℕ → ℕ → Option V
  pub locals : ℕ → Local V

-- each process has its input, and nothing has happened
abbrev pub first_world : {V : Type 0} → PlanTree → (ℕ → V) → World V
first_world T inputs = record {
  states = λ node. (T.meeting node).start;
  registers = λ node team. None;
  locals = λ p. Active 0 (inputs p) Write;
}

-- a process goes on from place i, of this many, with this value
abbrev pub onward : {V : Type 0} → ℕ → ℕ → V → Local V
onward places i y = if nat_lt (i + 1) places then Active (i + 1) y Write else Decided y

-- so it does with the value in the register that it read; if the register were empty, it would stay
abbrev pub onward_if_found : {V : Type 0} → ℕ → ℕ → Local V → Option V → Local V
onward_if_found places i stays None = stays
onward_if_found places i stays (Some y) = onward places i y

abbrev pub looks_at : PlanTree → ℕ → ℕ → Bool
looks_at T node p = looks ((T.meeting node).sight p)

-- behind its operation a process looks at the object, or goes on at once
abbrev pub behind : PlanTree → ℕ → Place → ℕ → Stage
behind T p here response = if looks_at T here.node p then Look response else Take response 0

-- the world after the action of process p, which is at place i of its path with this value
abbrev pub after_action : {V : Type 0} → PlanTree → ℕ → World V → ℕ → V → Stage → Place → World V
after_action T p w i x Write here = record w {
  registers = put w.registers here.node (put (w.registers here.node) here.team (Some x));
  locals = put w.locals p (Active i x Apply);
}
after_action T p w i x Apply here =
    let acted = act T.table (T.meeting here.node) p (w.states here.node) in
    record w {
      states = put w.states here.node acted.1;
      locals = put w.locals p (Active i x (behind T p here acted.0));
    }
after_action T p w i x (Look response) here = record w {
  locals = put w.locals p
      (Active i x (Take response (see T.table (T.meeting here.node) p (w.states here.node))));
}
after_action T p w i x (Take response saw) here = record w {
  locals = put w.locals p
      (onward_if_found (length (path_of T p)) i (Active i x (Take response saw))
      (w.registers here.node (T.judge here.node p response saw)));
}

abbrev pub after_step_from : {V : Type 0} → PlanTree → ℕ → World V → Local V → World V
after_step_from T p w (Active i x stage) = after_action T p w i x stage (place_of T p i)
after_step_from T p w (Decided y) = w

-- the world after one atomic step of process p
abbrev pub after_step : {V : Type 0} → PlanTree → ℕ → World V → World V
after_step T p w = after_step_from T p w (w.locals p)

-- the world after the steps of a schedule
abbrev pub after_schedule : {V : Type 0} → PlanTree → List ℕ → World V → World V
after_schedule T [] w = w
after_schedule T (p ∷ schedule) w = after_schedule T schedule (after_step T p w)

-- the world after a schedule in which the processes have these inputs
abbrev pub world_after : {V : Type 0} → PlanTree → (ℕ → V) → List ℕ → World V
world_after T inputs schedule = after_schedule T schedule (first_world T inputs)
