-- The game on two runs, by which an object that cannot be read is defended. New here.
-- Two runs go on from the moment when each process is about to apply its operation to the object:
-- in the first a process of team A has moved first, in the second one of team B. All but this
-- object is the same in both. The adversary chooses which process moves next, and in which run; the
-- protocol chooses the next operation of a process that has seen the same in both.
use Rattle.std.specs.Prelude.{◌≡◌, ◌≢◌, ℕ, zero, suc, ◌<◌, length, Some}
use Rattle.std.specs.Prelude.{slice_get, slice_index}
use Rattle.cn_table.specs.TypeTable.{TypeTable, transition}
use Rattle.cn_choice.specs.declared.team.Team.TheVariants.{A, B}
use Rattle.cn_choice.specs.RawChoices.{IsRawChoice, RawChoice}
use Rattle.cn_unread.specs.Functions.{put}

-- what has come of a process: it has seen the same in both runs, and is about to apply this
-- operation in both; it has applied the operation in the first run alone, or in the second alone,
-- and got this response; or it has got different responses, and moves no more
pub data Status : Type 0 where
  Poised : ℕ → Status
  AheadInFirst : ℕ → ℕ → Status
  AheadInSecond : ℕ → ℕ → Status
  Lost : Status

-- the states of the object in the two runs, and what has come of each process
pub record Position : Type 0 where
  pub first : ℕ
  pub second : ℕ
  pub status : ℕ → Status

-- the position after process j has applied the operation in the first run, or in the second
abbrev pub moved_first : TypeTable → Position → ℕ → ℕ → Status → Position
moved_first t x j o new = record {
  first = (transition t o x.first).1;
  second = x.second;
  status = put x.status j new;
}

abbrev pub moved_second : TypeTable → Position → ℕ → ℕ → Status → Position
moved_second t x j o new = record {
  first = x.first;
  second = (transition t o x.second).1;
  status = put x.status j new;
}

-- every position to which a move of process j can lead has the property H. A process that has got
-- one response in both runs is poised again, with an operation that the protocol chooses.
abbrev pub EachMove : TypeTable → (Position → Type 0) → Position → ℕ → Status → Type 0
EachMove t H x j (Poised o) =
    H (moved_first t x j o (AheadInFirst o (transition t o x.first).0))
    × H (moved_second t x j o (AheadInSecond o (transition t o x.second).0))
EachMove t H x j (AheadInFirst o r) =
    ((transition t o x.second).0 ≡ r
    → (m : ℕ) × (m < length t.operations) × H (moved_second t x j o (Poised m)))
    × ((transition t o x.second).0 ≢ r → H (moved_second t x j o Lost))
EachMove t H x j (AheadInSecond o r) =
    ((transition t o x.first).0 ≡ r
    → (m : ℕ) × (m < length t.operations) × H (moved_first t x j o (Poised m)))
    × ((transition t o x.first).0 ≢ r → H (moved_first t x j o Lost))
EachMove t H x j Lost = Unit {0}

-- the protocol of n processes holds out: whatever the adversary does, no process can move any more
-- before k moves are made
abbrev pub HoldsWithin : TypeTable → ℕ → ℕ → Position → Type 0
HoldsWithin t n zero x = ⊥
HoldsWithin t n (suc k) x =
    (j : ℕ) → j < n → EachMove t (HoldsWithin t n k) x j (x.status j)

-- process a has moved in the first run, and process b in the second
abbrev pub start : TypeTable → RawChoice → ℕ → ℕ → Position
start t c a b = record {
  first = (transition t (slice_index c.operations a) c.state).1;
  second = (transition t (slice_index c.operations b) c.state).1;
  status = put (put (λ j. Poised (slice_index c.operations j)) a
      (AheadInFirst (slice_index c.operations a)
      (transition t (slice_index c.operations a) c.state).0)) b
      (AheadInSecond (slice_index c.operations b)
      (transition t (slice_index c.operations b) c.state).0);
}

-- whichever process of team A has moved first in the first run, and whichever of team B in the
-- second, the protocol holds out
abbrev pub IsDefended : TypeTable → RawChoice → Type 0
IsDefended t c = (a b : ℕ) → a < length c.operations → b < length c.operations
    → slice_get c.marks a ≡ Some A → slice_get c.marks b ≡ Some B
    → (k : ℕ) × HoldsWithin t (length c.operations) k (start t c a b)

-- some raw choice for n processes is defended
abbrev pub IsDefendedFor : TypeTable → ℕ → Type 0
IsDefendedFor t n = (c : RawChoice) × IsRawChoice t n c × IsDefended t c
