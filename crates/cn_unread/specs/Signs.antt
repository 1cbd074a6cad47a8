-- Signs: one process does a single operation, the others another, and all then go over a list of
-- further operations until an answer shows which was first. New here.
use Rattle.std.specs.Prelude.{◌≡◌, ◌≢◌, ℕ, ◌<◌, ◌≤◌, ◌⊎◌, List, length, Bool, true, false}
use Rattle.std.specs.Prelude.{slice_index}
use Rattle.cn_table.specs.TypeTable.{TypeTable, transition}
use Rattle.cn_choice.specs.Renumbering.{other}
use Rattle.cn_choice.specs.declared.team.Team.{Team}
use Rattle.cn_choice.specs.declared.team.Team.TheVariants.{A, B}

-- the state in which the object starts; the operation of the single process, which is team A; that of
-- the others, team B; the operations of which all then go over the list, again and again; the team
-- whose signs they look for; which responses to which operations are signs; and for each state a
-- number, which falls with each change that comes without a sign
pub record Signs : Type 0 where
  pub state : ℕ
  pub single : ℕ
  pub many : ℕ
  pub further : List ℕ
  pub side : Team
  pub sign : ℕ → ℕ → Bool
  pub rank : ℕ → ℕ
  pub height : ℕ

-- the state that operation number i of the list leaves, and its response
abbrev pub left_by : TypeTable → Signs → ℕ → ℕ → ℕ
left_by t w i s = (transition t (slice_index w.further i) s).1

abbrev pub answer_of : TypeTable → Signs → ℕ → ℕ → ℕ
answer_of t w i s = (transition t (slice_index w.further i) s).0

-- the response is a sign
abbrev pub shows : TypeTable → Signs → ℕ → ℕ → Bool
shows t w i s = w.sign (slice_index w.further i) (answer_of t w i s)

-- from the first state to the second by operations of the many and of the list
pub data Leads (t : TypeTable) (w : Signs) (first : ℕ) : ℕ → Type 0 where
  Here : Leads t w first first
  ByMany : (s : ℕ) → Leads t w first s → Leads t w first (transition t w.many s).1
  ByFurther : (s i : ℕ) → i < length w.further → Leads t w first s
      → Leads t w first (left_by t w i s)

-- the states in which the object can be once a process of the team has been first
abbrev pub StatesOf : TypeTable → Signs → Team → ℕ → Type 0
StatesOf t w A s = Leads t w (transition t w.single w.state).1 s
StatesOf t w B s = Leads t w (transition t w.many w.state).1 s
    ⊎ ((u : ℕ) × Leads t w (transition t w.many w.state).1 u
    × Leads t w (transition t w.single u).1 s)

-- in states of the other team nothing is a sign; no cycle of changes is without a sign; and in each
-- state of the team some operation of the list gives a sign or changes the state
pub record AreSigns (t : TypeTable) (w : Signs) : Type 0 where
  pub state_known : w.state < length t.states
  pub single_known : w.single < length t.operations
  pub many_known : w.many < length t.operations
  pub further_known : (i : ℕ) → i < length w.further
      → slice_index w.further i < length t.operations
  pub some : 0 < length w.further
  pub of_team : (s i : ℕ) → StatesOf t w (other w.side) s → i < length w.further
      → shows t w i s ≡ false
  pub falls : (s i : ℕ) → StatesOf t w w.side s → i < length w.further → shows t w i s ≡ false
      → left_by t w i s ≢ s → w.rank (left_by t w i s) < w.rank s
  pub low : (s : ℕ) → StatesOf t w w.side s → w.rank s ≤ w.height
  pub seen : (s : ℕ) → StatesOf t w w.side s
      → (i : ℕ) × (i < length w.further) × ((shows t w i s ≡ true) ⊎ (left_by t w i s ≢ s))
