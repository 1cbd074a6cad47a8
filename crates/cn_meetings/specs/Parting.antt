-- Operations that part: which of them was first can be told for good. New here.
use Rattle.std.specs.Prelude.{ℕ, ◌≡◌, ◌<◌, Bool, true, length}
use Rattle.cn_table.specs.TypeTable.{TypeTable, transition}
use Rattle.cn_meetings.specs.Meeting.{IsSightOf, Meeting, Sight, sees}

-- a start state; the operation of each team; how its processes look; which states are marked, and
-- for the team of which; and the judgement by the own team, the response, and what is seen
pub record Parting : Type 0 where
  pub start : ℕ
  pub operation : ℕ → ℕ
  pub sight : Sight
  pub marked : ℕ → Bool
  pub side : ℕ → ℕ
  pub judge : ℕ → ℕ → ℕ → ℕ

-- the operations of k teams part: the first one leads to a state that is marked for its team;
-- further ones lead to states that are marked for the same team; and each process judges right
pub record ArePart (t : TypeTable) (k : ℕ) (w : Parting) : Type 0 where
  pub begins : (g : ℕ) → g < k
      → (w.marked (transition t (w.operation g) w.start).1 ≡ true)
      × (w.side (transition t (w.operation g) w.start).1 ≡ g)
  pub stays : (g q : ℕ) → g < k → w.marked q ≡ true
      → (w.marked (transition t (w.operation g) q).1 ≡ true)
      × (w.side (transition t (w.operation g) q).1 ≡ w.side q)
  pub first_judges : (g last : ℕ) → g < k → w.marked last ≡ true → w.side last ≡ g
      → w.judge g (transition t (w.operation g) w.start).0 (sees t w.sight last) ≡ g
  pub later_judges : (g q last : ℕ) → g < k → w.marked q ≡ true → w.marked last ≡ true
      → w.side q ≡ w.side last
      → w.judge g (transition t (w.operation g) q).0 (sees t w.sight last) ≡ w.side last

-- the start state, the operations of k teams and the sight are those of the type
pub record IsPartingOf (t : TypeTable) (k : ℕ) (w : Parting) : Type 0 where
  pub start : w.start < length t.states
  pub operations : (g : ℕ) → g < k → w.operation g < length t.operations
  pub sight : IsSightOf t w.sight

-- each process applies the operation of its team
abbrev pub parting_meeting : Parting → (ℕ → ℕ) → Meeting
parting_meeting w team = record {
  start = w.start;
  operation = λ p. w.operation (team p);
  sight = λ p. w.sight;
}

abbrev pub parting_judge : Parting → (ℕ → ℕ) → ℕ → ℕ → ℕ → ℕ
parting_judge w team p response saw = w.judge (team p) response saw
