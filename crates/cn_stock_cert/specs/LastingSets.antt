-- Sets of states that show that two operations last.
use Rattle.std.specs.Prelude.{◌≢◌, ℕ, ◌<◌, List, length, All, Contains}
use Rattle.cn_table.specs.TypeTable.{TypeTable, transition}

-- a start state, the operation that many processes do and the one that a single one does; the states
-- while only the many have moved, those once the single one has moved behind another process, and
-- those once it moved first
pub record LastingSets : Type 0 where
  pub start : ℕ
  pub many : ℕ
  pub single : ℕ
  pub alone : List ℕ
  pub behind : List ℕ
  pub first : List ℕ

-- the operation leads from each of the states to one of these
abbrev pub LeadsInto : TypeTable → ℕ → List ℕ → List ℕ → Type 0
LeadsInto t o to from = All (λ q. Contains to (transition t o q).1) from

-- each list is one of states of the type, is closed under the operation of the many, and has the
-- states that it has to have; none is in the last list and in another one
pub record AreLastingSets (t : TypeTable) (s : LastingSets) : Type 0 where
  pub start_known : s.start < length t.states
  pub many_known : s.many < length t.operations
  pub single_known : s.single < length t.operations
  pub different : s.many ≢ s.single
  pub alone_known : All (λ q. q < length t.states) s.alone
  pub behind_known : All (λ q. q < length t.states) s.behind
  pub first_known : All (λ q. q < length t.states) s.first
  pub alone : Contains s.alone s.start
  pub alone_closed : LeadsInto t s.many s.alone s.alone
  pub behind : All (λ q. Contains s.behind (transition t s.single (transition t s.many q).1).1) s.alone
  pub behind_closed : LeadsInto t s.many s.behind s.behind
  pub first : Contains s.first (transition t s.single s.start).1
  pub first_closed : LeadsInto t s.many s.first s.first
  pub apart : All (λ q. ¬ Contains s.alone q × ¬ Contains s.behind q) s.first
