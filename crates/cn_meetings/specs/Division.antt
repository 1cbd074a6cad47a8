-- The finest division of a meeting: processes that cannot be in different teams. New here.
use Rattle.std.specs.Prelude.{ℕ, ◌≡◌, ◌↔◌, Bool, List, ◌∷◌}
use Rattle.cn_table.specs.TypeTable.{TypeTable}
use Rattle.cn_meetings.specs.Meeting.{Meeting}
use Rattle.cn_meetings.specs.Witness.{IsShown}

-- some process is shown the same where p comes first as where q does
pub record AreJoined (t : TypeTable) (M : Meeting) (processes : ℕ → Bool) (p q : ℕ) : Type 0 where
  pub behind_p : List ℕ
  pub behind_q : List ℕ
  pub to : ℕ
  pub response : ℕ
  pub saw : ℕ
  pub shown_p : IsShown t M processes (p ∷ behind_p) to response saw
  pub shown_q : IsShown t M processes (q ∷ behind_q) to response saw

-- in one component: joined, or by way of others
pub data AreConnected (t : TypeTable) (M : Meeting) (processes : ℕ → Bool) : ℕ → ℕ → Type 0 where
  Itself : (p : ℕ) → AreConnected t M processes p p
  ByWayOf : (p q r : ℕ) → AreJoined t M processes p q → AreConnected t M processes q r
      → AreConnected t M processes p r

-- the teams are the components
abbrev pub IsFinest : TypeTable → Meeting → (ℕ → Bool) → (ℕ → ℕ) → Type 0
IsFinest t M processes team = (p q : ℕ) → (team p ≡ team q) ↔ AreConnected t M processes p q

-- each team is in one team of the coarser division
abbrev pub IsCoarser : (ℕ → ℕ) → (ℕ → ℕ) → Type 0
IsCoarser coarse fine = (p q : ℕ) → fine p ≡ fine q → coarse p ≡ coarse q
