-- Choices as meetings, and processes under other names.
-- Source: Ruppert, Determining consensus numbers, 2000: witnesses of two teams whose processes
-- read.
use Rattle.std.specs.Prelude.{ℕ, ◌+◌, Bool, length, nat_lt, if◌then◌else◌, slice_index}
use Rattle.cn_choice.specs.Canonical.{Choice, raw_choice_of}
use Rattle.cn_meetings.specs.Meeting.{Meeting}
use Rattle.cn_meetings.specs.Meeting.Sight.{State}

-- each process does as the process of its role
abbrev pub renamed : (ℕ → ℕ) → Meeting → Meeting
renamed role M = record {
  start = M.start;
  operation = λ p. M.operation (role p);
  sight = λ p. M.sight (role p);
}

-- the processes of a choice with their operations, all of which read the state
abbrev pub choice_meeting : Choice → Meeting
choice_meeting c = record {
  start = c.state;
  operation = λ p. slice_index (raw_choice_of c).operations p;
  sight = λ p. State;
}

abbrev pub choice_processes : Choice → ℕ → Bool
choice_processes c p = nat_lt p (length c.a + length c.b)

-- team A is team 0, team B is team 1
abbrev pub choice_team : Choice → ℕ → ℕ
choice_team c p = if nat_lt p (length c.a) then 0 else 1
