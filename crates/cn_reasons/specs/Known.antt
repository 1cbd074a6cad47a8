-- Parts of an explanation that are of a table: it has their states, responses and operations.
use Rattle.std.specs.Prelude.{◌≡◌, ◌+◌, ◌<◌, ◌≤◌, length, All}
use Rattle.cn_table.specs.TypeTable.{TypeTable}
use Rattle.cn_table.specs.declared.elements.State.{State}
use Rattle.cn_choice.specs.declared.limits.TheConstants.{MOST_PROCESSES}
use Rattle.cn_interference.specs.declared.pairs.OperationPair.{OperationPair}
use Rattle.cn_reasons.specs.declared.group.ChoiceGroups.{ChoiceGroups}
use Rattle.cn_reasons.specs.declared.group.Group.{Group}
use Rattle.cn_reasons.specs.declared.lasting.LastingWitness.{LastingWitness}
use Rattle.cn_reasons.specs.declared.reasons.RecoverableWay.{RecoverableWay}
use Rattle.cn_reasons.specs.declared.recording.RecordingWitness.{RecordingWitness}
use Rattle.cn_reasons.specs.declared.refutation.Refutation.{Refutation}
use Rattle.cn_reasons.specs.declared.runs.Runs.{Runs}
use Rattle.cn_reasons.specs.declared.runs.Step.{Step}
use Rattle.cn_reasons.specs.declared.sight.Sight.{Sight}
use Rattle.cn_reasons.specs.declared.way.Way.{Way}
use Rattle.cn_reasons.specs.declared.witness.View.{View}
use Rattle.cn_reasons.specs.declared.witness.Witness.{Witness}

abbrev pub IsKnownState : TypeTable → State → Type 0
IsKnownState t q = q.0 < length t.states

pub record IsKnownSight (t : TypeTable) (s : Sight) : Type 0 where
  pub response : s.response.0 < length t.responses
  pub state : s.state.0 < length t.states

-- some of the processes
pub record IsKnownGroup (t : TypeTable) (g : Group) : Type 0 where
  pub some : 1 ≤ g.count
  pub few : g.first + g.count ≤ MOST_PROCESSES
  pub operation : g.operation.0 < length t.operations

pub record IsKnownChoice (t : TypeTable) (c : ChoiceGroups) : Type 0 where
  pub start : c.start.0 < length t.states
  pub a : All (IsKnownGroup t) c.a.items
  pub b : All (IsKnownGroup t) c.b.items

pub record IsKnownStep (t : TypeTable) (s : Step) : Type 0 where
  pub process : s.process < MOST_PROCESSES
  pub operation : s.operation.0 < length t.operations
  pub response : s.response.0 < length t.responses
  pub state : s.state.0 < length t.states

pub record AreKnownRuns (t : TypeTable) (r : Runs) : Type 0 where
  pub a_first : All (IsKnownStep t) r.a_first.items
  pub b_first : All (IsKnownStep t) r.b_first.items

pub record IsKnownWay (t : TypeTable) (w : Way) : Type 0 where
  pub choice : IsKnownChoice t w.choice
  pub process : w.process < MOST_PROCESSES
  pub sight : IsKnownSight t w.sight
  pub runs : AreKnownRuns t w.runs

pub record IsKnownRecoverableWay (t : TypeTable) (w : RecoverableWay) : Type 0 where
  pub choice : IsKnownChoice t w.choice
  pub state : w.state.0 < length t.states
  pub runs : AreKnownRuns t w.runs

-- for 2 to MOST_PROCESSES processes; each way that is told is known; with those that are not told
-- they are all
pub record IsKnownRefutation {W : Type 0} (IsKnown : W → Type 0) (r : Refutation W) : Type 0 where
  pub some : 2 ≤ r.processes
  pub few : r.processes ≤ MOST_PROCESSES
  pub ways : All IsKnown r.ways.items
  pub count : r.count ≡ length r.ways.items + r.more

pub record IsKnownView (t : TypeTable) (v : View) : Type 0 where
  pub group : IsKnownGroup t v.group
  pub a_first : All (IsKnownSight t) v.a_first.items
  pub b_first : All (IsKnownSight t) v.b_first.items

pub record IsKnownWitness (t : TypeTable) (w : Witness) : Type 0 where
  pub some : 2 ≤ w.processes
  pub few : w.processes ≤ MOST_PROCESSES
  pub choice : IsKnownChoice t w.choice
  pub views : All (IsKnownView t) w.views.items

pub record IsKnownRecording (t : TypeTable) (w : RecordingWitness) : Type 0 where
  pub some : 2 ≤ w.processes
  pub few : w.processes ≤ MOST_PROCESSES
  pub choice : IsKnownChoice t w.choice
  pub a_states : All (IsKnownState t) w.a_states.items
  pub b_states : All (IsKnownState t) w.b_states.items

pub record IsKnownLasting (t : TypeTable) (l : LastingWitness) : Type 0 where
  pub start : l.lasting.start.0 < length t.states
  pub single : l.lasting.single.0 < length t.operations
  pub many : l.lasting.many.0 < length t.operations
  pub single_states : All (IsKnownState t) l.single_states.items
  pub many_states : All (IsKnownState t) l.many_states.items

pub record IsKnownPair (t : TypeTable) (pair : OperationPair) : Type 0 where
  pub first : pair.first.0 < length t.operations
  pub second : pair.second.0 < length t.operations
