-- What a program can list for a node, and for signs: sets that are closed under the steps. New here.
use Rattle.std.specs.Prelude.{◌≡◌, ◌≢◌, ℕ, ◌+◌, ◌<◌, ◌≤◌, ◌⊎◌, [], length, Bool, true, false}
use Rattle.std.specs.Prelude.{slice_index}
use Rattle.cn_table.specs.TypeTable.{TypeTable, transition}
use Rattle.cn_choice.specs.Renumbering.{other}
use Rattle.cn_choice.specs.declared.team.Team.{Team}
use Rattle.cn_choice.specs.declared.team.Team.TheVariants.{A, B}
use Rattle.cn_unread.specs.Nodes.{team_of}
use Rattle.cn_unread.specs.Nodes.{IsMoveOf, Node, Scene, next_scene, scene_after}
use Rattle.cn_unread.specs.Nodes.Move.{Apply, Finish}
use Rattle.cn_unread.specs.Signs.{Signs, left_by, shows}

-- scenes after first moves of a team, with all that moves make of them; a role that has finished in one
-- tells the team; and a number of what is left to each role, which falls with each operation
pub record AreScenes (t : TypeTable) (a b : ℕ) (node : Node) (has : Team → Scene → Bool)
    (left : ℕ → ℕ × ℕ → ℕ) (bound : ℕ) : Type 0 where
  pub state_known : node.state < length t.states
  pub operations_known : (j : ℕ) (x : ℕ × ℕ) → j < a + b → IsMoveOf t (node.move j x)
  pub starts : (j : ℕ) (side : Team) → j < a + b → node.move j (node.start j) ≢ Finish side
  pub first : (p : ℕ) → p < a + b
      → has (team_of a p) (next_scene t node (scene_after t node []) p) ≡ true
  pub next : (y : Team) (v : Scene) (p : ℕ) → p < a + b → has y v ≡ true
      → has y (next_scene t node v p) ≡ true
  pub right : (y : Team) (v : Scene) (j : ℕ) (side : Team) → j < a + b → has y v ≡ true
      → node.move j (v.kept j) ≡ Finish side → y ≡ side
  pub falls : (j : ℕ) (x : ℕ × ℕ) (o : ℕ) (k : ℕ → ℕ × ℕ) (r : ℕ) → j < a + b
      → node.move j x ≡ Apply o k → left j (k r) < left j x
  pub enough : (j : ℕ) → j < a + b → left j (node.start j) ≤ bound

-- the states where the single operation was first, where another was first, and where the single one
-- came later
pub record SignSets : Type 0 where
  pub single_first : ℕ → Bool
  pub many_first : ℕ → Bool
  pub single_later : ℕ → Bool

-- where the team was first, the state is in one of its sets
abbrev pub InSet : SignSets → Team → ℕ → Type 0
InSet e A s = e.single_first s ≡ true
InSet e B s = (e.many_first s ≡ true) ⊎ (e.single_later s ≡ true)

-- the set keeps all that the many and the list make of its states
abbrev pub IsClosedSet : TypeTable → Signs → (ℕ → Bool) → Type 0
IsClosedSet t w f = (s : ℕ) → f s ≡ true → (f (transition t w.many s).1 ≡ true)
    × ((i : ℕ) → i < length w.further → f (left_by t w i s) ≡ true)

-- the sets, and in their states what signs need
pub record AreSignSets (t : TypeTable) (w : Signs) (e : SignSets) : Type 0 where
  pub state_known : w.state < length t.states
  pub single_known : w.single < length t.operations
  pub many_known : w.many < length t.operations
  pub further_known : (i : ℕ) → i < length w.further
      → slice_index w.further i < length t.operations
  pub some : 0 < length w.further
  pub begins_single : e.single_first (transition t w.single w.state).1 ≡ true
  pub begins_many : e.many_first (transition t w.many w.state).1 ≡ true
  pub goes_on : (s : ℕ) → e.many_first s ≡ true
      → e.single_later (transition t w.single s).1 ≡ true
  pub single_closed : IsClosedSet t w e.single_first
  pub many_closed : IsClosedSet t w e.many_first
  pub later_closed : IsClosedSet t w e.single_later
  pub of_team : (s i : ℕ) → InSet e (other w.side) s → i < length w.further
      → shows t w i s ≡ false
  pub falls : (s i : ℕ) → InSet e w.side s → i < length w.further → shows t w i s ≡ false
      → left_by t w i s ≢ s → w.rank (left_by t w i s) < w.rank s
  pub low : (s : ℕ) → InSet e w.side s → w.rank s ≤ w.height
  pub seen : (s : ℕ) → InSet e w.side s
      → (i : ℕ) × (i < length w.further) × ((shows t w i s ≡ true) ⊎ (left_by t w i s ≢ s))
