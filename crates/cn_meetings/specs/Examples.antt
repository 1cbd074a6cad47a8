-- Types as examples, and operations of them that part.
use Rattle.std.specs.Prelude.{ℕ, zero, suc, ◌+◌, ◌-◌, Bool, true, false, [], ◌∷◌, map, nat_lt}
use Rattle.std.specs.Prelude.{replicate}
use Rattle.std.specs.List.{range_with_len}
use Rattle.cn_table.specs.TypeTable.{TypeTable}
use Rattle.cn_meetings.specs.Meeting.{Sight}
use Rattle.cn_meetings.specs.Meeting.Sight.{Nothing}
use Rattle.cn_meetings.specs.Parting.{Parting}

-- A sticky bit. States: unset, zero, one. Operations: to put zero, to put one; each answers with
-- the bit that then is there.
-- Source: Plotkin, Sticky bits and universality of consensus, 1989.
abbrev pub sticky_bit : TypeTable
sticky_bit = record {
  name = [];
  states = [] ∷ [] ∷ [] ∷ [];
  responses = [] ∷ [] ∷ [];
  operations =
      record { name = []; response = 0 ∷ 0 ∷ 1 ∷ []; next = 1 ∷ 1 ∷ 2 ∷ [] }
      ∷ record { name = []; response = 1 ∷ 0 ∷ 1 ∷ []; next = 2 ∷ 1 ∷ 2 ∷ [] } ∷ [];
}

abbrev pub is_set : ℕ → Bool
is_set zero = false
is_set (suc zero) = true
is_set (suc (suc zero)) = true
is_set (suc (suc (suc q))) = false

-- team g puts g, and the answer tells the team that came first
abbrev pub puts : Parting
puts = record {
  start = 0;
  operation = λ g. g;
  sight = Nothing;
  marked = is_set;
  side = λ q. q - 1;
  judge = λ g response saw. response;
}

-- A sticky bit that answers nothing when it is put. A third operation answers with the state.
-- New here.
abbrev pub quiet_bit : TypeTable
quiet_bit = record {
  name = [];
  states = [] ∷ [] ∷ [] ∷ [];
  responses = [] ∷ [] ∷ [] ∷ [];
  operations =
      record { name = []; response = 0 ∷ 0 ∷ 0 ∷ []; next = 1 ∷ 1 ∷ 2 ∷ [] }
      ∷ record { name = []; response = 0 ∷ 0 ∷ 0 ∷ []; next = 2 ∷ 1 ∷ 2 ∷ [] }
      ∷ record { name = []; response = 0 ∷ 1 ∷ 2 ∷ []; next = 0 ∷ 1 ∷ 2 ∷ [] } ∷ [];
}

-- so a process has to look
abbrev pub quiet_puts : Sight → Parting
quiet_puts sight = record {
  start = 0;
  operation = λ g. g;
  sight = sight;
  marked = is_set;
  side = λ q. q - 1;
  judge = λ g response saw. saw - 1;
}

-- Compare-and-swap from 0 to one of k values: operation g puts g + 1 if it finds 0, and answers
-- with the value that it finds.
-- Source: Herlihy, Wait-free synchronization, 1991.
abbrev pub compare_and_swap : ℕ → TypeTable
compare_and_swap k = record {
  name = [];
  states = replicate (k + 1) [];
  responses = replicate (k + 1) [];
  operations = map (λ g. record {
    name = [];
    response = range_with_len 0 (k + 1);
    next = (g + 1) ∷ range_with_len 1 k;
  }) (range_with_len 0 k);
}

abbrev pub is_swapped : ℕ → ℕ → Bool
is_swapped k zero = false
is_swapped k (suc q) = nat_lt q k

-- who finds 0 came first; else the value tells who did
abbrev pub found_by : ℕ → ℕ → ℕ
found_by g zero = g
found_by g (suc q) = q

abbrev pub swaps : ℕ → Parting
swaps k = record {
  start = 0;
  operation = λ g. g;
  sight = Nothing;
  marked = is_swapped k;
  side = λ q. q - 1;
  judge = λ g response saw. found_by g response;
}
