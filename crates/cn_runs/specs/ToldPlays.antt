-- Two runs of each choice for one process more than the number, as `why` tells them of these types.
-- `tests/reasons/plays PROGRAM --write` writes this file.
use Rattle.std.specs.Prelude.{codes, List, [], ◌∷◌}
use Rattle.cn_table.specs.TypeTable.{TypeTable}
use Rattle.cn_runs.specs.Plays.{TwoRuns, step_of, two_runs}

abbrev pub test_and_set : TypeTable
test_and_set = record {
  name = codes "test_and_set";
  states = codes "zero" ∷ codes "one" ∷ [];
  responses = codes "zero" ∷ codes "one" ∷ [];
  operations =
      record {
        name = codes "tas";
        response = 0 ∷ 1 ∷ [];
        next = 1 ∷ 1 ∷ [];
      } ∷
      [];
}

-- 1 of 3 processes
abbrev pub plays_of_test_and_set : List TwoRuns
plays_of_test_and_set =
    two_runs 0 (0 ∷ []) (0 ∷ 0 ∷ []) 1
    (step_of 0 0 0 1 ∷ step_of 1 0 1 1 ∷ [])
    (step_of 2 0 0 1 ∷ step_of 1 0 1 1 ∷ []) ∷
    []

abbrev pub queue_1 : TypeTable
queue_1 = record {
  name = codes "queue_1";
  states = codes "q" ∷ codes "qa" ∷ codes "qb" ∷ [];
  responses = codes "ok" ∷ codes "full" ∷ codes "empty" ∷ codes "a" ∷ codes "b" ∷ [];
  operations =
      record {
        name = codes "enq_a";
        response = 0 ∷ 1 ∷ 1 ∷ [];
        next = 1 ∷ 1 ∷ 2 ∷ [];
      } ∷
      record {
        name = codes "enq_b";
        response = 0 ∷ 1 ∷ 1 ∷ [];
        next = 2 ∷ 1 ∷ 2 ∷ [];
      } ∷
      record {
        name = codes "deq";
        response = 2 ∷ 3 ∷ 4 ∷ [];
        next = 0 ∷ 0 ∷ 0 ∷ [];
      } ∷
      [];
}

-- 8 of 3 processes
abbrev pub plays_of_queue_1 : List TwoRuns
plays_of_queue_1 =
    two_runs 0 (0 ∷ []) (0 ∷ 0 ∷ []) 2
    (step_of 0 0 0 1 ∷ [])
    (step_of 1 0 0 1 ∷ []) ∷
    two_runs 0 (0 ∷ []) (0 ∷ 1 ∷ []) 2
    (step_of 0 0 0 1 ∷ [])
    (step_of 1 0 0 1 ∷ []) ∷
    two_runs 0 (0 ∷ []) (1 ∷ 1 ∷ []) 1
    (step_of 0 0 0 1 ∷ step_of 2 1 1 1 ∷ step_of 2 2 3 0 ∷ step_of 1 1 0 2 ∷ [])
    (step_of 1 1 0 2 ∷ step_of 2 1 1 2 ∷ []) ∷
    two_runs 0 (1 ∷ []) (0 ∷ 0 ∷ []) 1
    (step_of 0 1 0 2 ∷ step_of 2 0 1 2 ∷ step_of 2 2 4 0 ∷ step_of 1 0 0 1 ∷ [])
    (step_of 1 0 0 1 ∷ step_of 2 0 1 1 ∷ []) ∷
    two_runs 0 (1 ∷ []) (0 ∷ 1 ∷ []) 1
    (step_of 0 1 0 2 ∷ [])
    (step_of 2 1 0 2 ∷ []) ∷
    two_runs 0 (1 ∷ []) (1 ∷ 1 ∷ []) 2
    (step_of 0 1 0 2 ∷ [])
    (step_of 1 1 0 2 ∷ []) ∷
    two_runs 1 (2 ∷ []) (2 ∷ 2 ∷ []) 2
    (step_of 0 2 3 0 ∷ [])
    (step_of 1 2 3 0 ∷ []) ∷
    two_runs 2 (2 ∷ []) (2 ∷ 2 ∷ []) 2
    (step_of 0 2 4 0 ∷ [])
    (step_of 1 2 4 0 ∷ []) ∷
    []

abbrev pub queue_2 : TypeTable
queue_2 = record {
  name = codes "queue_2";
  states =
      codes "q" ∷
      codes "qa" ∷
      codes "qb" ∷
      codes "qaa" ∷
      codes "qab" ∷
      codes "qba" ∷
      codes "qbb" ∷
      [];
  responses = codes "ok" ∷ codes "full" ∷ codes "empty" ∷ codes "a" ∷ codes "b" ∷ [];
  operations =
      record {
        name = codes "enq_a";
        response = 0 ∷ 0 ∷ 0 ∷ 1 ∷ 1 ∷ 1 ∷ 1 ∷ [];
        next = 1 ∷ 3 ∷ 5 ∷ 3 ∷ 4 ∷ 5 ∷ 6 ∷ [];
      } ∷
      record {
        name = codes "enq_b";
        response = 0 ∷ 0 ∷ 0 ∷ 1 ∷ 1 ∷ 1 ∷ 1 ∷ [];
        next = 2 ∷ 4 ∷ 6 ∷ 3 ∷ 4 ∷ 5 ∷ 6 ∷ [];
      } ∷
      record {
        name = codes "deq";
        response = 2 ∷ 3 ∷ 4 ∷ 3 ∷ 3 ∷ 4 ∷ 4 ∷ [];
        next = 0 ∷ 0 ∷ 0 ∷ 1 ∷ 2 ∷ 1 ∷ 2 ∷ [];
      } ∷
      [];
}

-- 46 of 3 processes
abbrev pub plays_of_queue_2 : List TwoRuns
plays_of_queue_2 =
    two_runs 0 (0 ∷ []) (0 ∷ 0 ∷ []) 2
    (step_of 0 0 0 1 ∷ [])
    (step_of 1 0 0 1 ∷ []) ∷
    two_runs 0 (0 ∷ []) (0 ∷ 1 ∷ []) 2
    (step_of 0 0 0 1 ∷ [])
    (step_of 1 0 0 1 ∷ []) ∷
    two_runs 0 (0 ∷ []) (1 ∷ 1 ∷ []) 2
    (step_of 0 0 0 1 ∷ step_of 2 1 0 4 ∷ [])
    (step_of 1 1 0 2 ∷ step_of 0 0 0 5 ∷ step_of 0 2 4 1 ∷ step_of 2 1 0 4 ∷ []) ∷
    two_runs 0 (1 ∷ []) (0 ∷ 0 ∷ []) 2
    (step_of 0 1 0 2 ∷ step_of 1 0 0 5 ∷ step_of 1 2 4 1 ∷ step_of 2 0 0 3 ∷ [])
    (step_of 1 0 0 1 ∷ step_of 2 0 0 3 ∷ []) ∷
    two_runs 0 (1 ∷ []) (0 ∷ 1 ∷ []) 1
    (step_of 0 1 0 2 ∷ [])
    (step_of 2 1 0 2 ∷ []) ∷
    two_runs 0 (1 ∷ []) (1 ∷ 1 ∷ []) 2
    (step_of 0 1 0 2 ∷ [])
    (step_of 1 1 0 2 ∷ []) ∷
    two_runs 1 (0 ∷ []) (0 ∷ 0 ∷ []) 2
    (step_of 0 0 0 3 ∷ [])
    (step_of 1 0 0 3 ∷ []) ∷
    two_runs 1 (0 ∷ []) (0 ∷ 1 ∷ []) 2
    (step_of 0 0 0 3 ∷ [])
    (step_of 1 0 0 3 ∷ []) ∷
    two_runs 1 (0 ∷ []) (0 ∷ 2 ∷ []) 2
    (step_of 0 0 0 3 ∷ [])
    (step_of 1 0 0 3 ∷ []) ∷
    two_runs 1 (0 ∷ []) (1 ∷ 1 ∷ []) 1
    (step_of 0 0 0 3 ∷ step_of 2 1 1 3 ∷ step_of 2 2 3 1 ∷ step_of 1 1 0 4 ∷ [])
    (step_of 1 1 0 4 ∷ step_of 2 1 1 4 ∷ []) ∷
    two_runs 1 (0 ∷ []) (1 ∷ 2 ∷ []) 1
    (step_of 0 0 0 3 ∷ step_of 2 2 3 1 ∷ step_of 1 1 0 4 ∷ [])
    (step_of 1 1 0 4 ∷ []) ∷
    two_runs 1 (0 ∷ []) (2 ∷ 2 ∷ []) 2
    (step_of 0 0 0 3 ∷ step_of 0 2 3 1 ∷ [])
    (step_of 1 2 3 0 ∷ step_of 0 0 0 1 ∷ []) ∷
    two_runs 1 (1 ∷ []) (0 ∷ 0 ∷ []) 2
    (step_of 0 1 0 4 ∷ step_of 2 0 1 4 ∷ step_of 2 2 3 2 ∷ step_of 1 0 0 5 ∷
    step_of 1 2 4 1 ∷ step_of 2 0 0 3 ∷ [])
    (step_of 1 0 0 3 ∷ step_of 2 0 1 3 ∷ step_of 2 2 3 1 ∷ step_of 2 0 0 3 ∷ []) ∷
    two_runs 1 (1 ∷ []) (0 ∷ 1 ∷ []) 1
    (step_of 0 1 0 4 ∷ [])
    (step_of 2 1 0 4 ∷ []) ∷
    two_runs 1 (1 ∷ []) (0 ∷ 2 ∷ []) 2
    (step_of 0 1 0 4 ∷ step_of 2 2 3 2 ∷ step_of 1 0 0 5 ∷ step_of 1 2 4 1 ∷
    step_of 2 0 0 3 ∷ [])
    (step_of 1 0 0 3 ∷ step_of 2 2 3 1 ∷ step_of 2 0 0 3 ∷ []) ∷
    two_runs 1 (1 ∷ []) (1 ∷ 1 ∷ []) 2
    (step_of 0 1 0 4 ∷ [])
    (step_of 1 1 0 4 ∷ []) ∷
    two_runs 1 (1 ∷ []) (1 ∷ 2 ∷ []) 2
    (step_of 0 1 0 4 ∷ [])
    (step_of 1 1 0 4 ∷ []) ∷
    two_runs 1 (1 ∷ []) (2 ∷ 2 ∷ []) 2
    (step_of 0 1 0 4 ∷ step_of 0 2 3 2 ∷ [])
    (step_of 1 2 3 0 ∷ step_of 0 1 0 2 ∷ []) ∷
    two_runs 1 (2 ∷ []) (0 ∷ 0 ∷ []) 2
    (step_of 0 2 3 0 ∷ step_of 1 0 0 1 ∷ step_of 1 0 0 3 ∷ [])
    (step_of 1 0 0 3 ∷ []) ∷
    two_runs 1 (2 ∷ []) (0 ∷ 1 ∷ []) 2
    (step_of 0 2 3 0 ∷ step_of 1 0 0 1 ∷ step_of 1 0 0 3 ∷ [])
    (step_of 1 0 0 3 ∷ []) ∷
    two_runs 1 (2 ∷ []) (0 ∷ 2 ∷ []) 1
    (step_of 0 2 3 0 ∷ [])
    (step_of 2 2 3 0 ∷ []) ∷
    two_runs 1 (2 ∷ []) (1 ∷ 1 ∷ []) 2
    (step_of 0 2 3 0 ∷ step_of 1 1 0 2 ∷ step_of 2 1 0 6 ∷ [])
    (step_of 1 1 0 4 ∷ step_of 1 2 3 2 ∷ step_of 2 1 0 6 ∷ []) ∷
    two_runs 1 (2 ∷ []) (1 ∷ 2 ∷ []) 1
    (step_of 0 2 3 0 ∷ [])
    (step_of 2 2 3 0 ∷ []) ∷
    two_runs 1 (2 ∷ []) (2 ∷ 2 ∷ []) 2
    (step_of 0 2 3 0 ∷ [])
    (step_of 1 2 3 0 ∷ []) ∷
    two_runs 2 (0 ∷ []) (0 ∷ 0 ∷ []) 2
    (step_of 0 0 0 5 ∷ [])
    (step_of 1 0 0 5 ∷ []) ∷
    two_runs 2 (0 ∷ []) (0 ∷ 1 ∷ []) 2
    (step_of 0 0 0 5 ∷ [])
    (step_of 1 0 0 5 ∷ []) ∷
    two_runs 2 (0 ∷ []) (0 ∷ 2 ∷ []) 2
    (step_of 0 0 0 5 ∷ [])
    (step_of 1 0 0 5 ∷ []) ∷
    two_runs 2 (0 ∷ []) (1 ∷ 1 ∷ []) 2
    (step_of 0 0 0 5 ∷ step_of 2 1 1 5 ∷ step_of 2 2 4 1 ∷ step_of 1 1 0 4 ∷
    step_of 1 2 3 2 ∷ step_of 2 0 0 5 ∷ [])
    (step_of 1 1 0 6 ∷ step_of 2 1 1 6 ∷ step_of 2 2 4 2 ∷ step_of 2 0 0 5 ∷ []) ∷
    two_runs 2 (0 ∷ []) (1 ∷ 2 ∷ []) 2
    (step_of 0 0 0 5 ∷ step_of 2 2 4 1 ∷ step_of 1 1 0 4 ∷ step_of 1 2 3 2 ∷
    step_of 2 0 0 5 ∷ [])
    (step_of 1 1 0 6 ∷ step_of 2 2 4 2 ∷ step_of 2 0 0 5 ∷ []) ∷
    two_runs 2 (0 ∷ []) (2 ∷ 2 ∷ []) 2
    (step_of 0 0 0 5 ∷ step_of 1 2 4 1 ∷ step_of 1 2 3 0 ∷ [])
    (step_of 1 2 4 0 ∷ []) ∷
    two_runs 2 (1 ∷ []) (0 ∷ 0 ∷ []) 1
    (step_of 0 1 0 6 ∷ step_of 2 0 1 6 ∷ step_of 2 2 4 2 ∷ step_of 1 0 0 5 ∷ [])
    (step_of 1 0 0 5 ∷ step_of 2 0 1 5 ∷ []) ∷
    two_runs 2 (1 ∷ []) (0 ∷ 1 ∷ []) 1
    (step_of 0 1 0 6 ∷ [])
    (step_of 2 1 0 6 ∷ []) ∷
    two_runs 2 (1 ∷ []) (0 ∷ 2 ∷ []) 1
    (step_of 0 1 0 6 ∷ step_of 2 2 4 2 ∷ step_of 1 0 0 5 ∷ [])
    (step_of 1 0 0 5 ∷ []) ∷
    two_runs 2 (1 ∷ []) (1 ∷ 1 ∷ []) 2
    (step_of 0 1 0 6 ∷ [])
    (step_of 1 1 0 6 ∷ []) ∷
    two_runs 2 (1 ∷ []) (1 ∷ 2 ∷ []) 2
    (step_of 0 1 0 6 ∷ [])
    (step_of 1 1 0 6 ∷ []) ∷
    two_runs 2 (1 ∷ []) (2 ∷ 2 ∷ []) 2
    (step_of 0 1 0 6 ∷ step_of 1 2 4 2 ∷ step_of 1 2 4 0 ∷ [])
    (step_of 1 2 4 0 ∷ []) ∷
    two_runs 2 (2 ∷ []) (0 ∷ 0 ∷ []) 2
    (step_of 0 2 4 0 ∷ step_of 1 0 0 1 ∷ step_of 2 0 0 3 ∷ [])
    (step_of 1 0 0 5 ∷ step_of 1 2 4 1 ∷ step_of 2 0 0 3 ∷ []) ∷
    two_runs 2 (2 ∷ []) (0 ∷ 1 ∷ []) 2
    (step_of 0 2 4 0 ∷ step_of 1 0 0 1 ∷ step_of 2 1 0 4 ∷ [])
    (step_of 1 0 0 5 ∷ step_of 1 2 4 1 ∷ step_of 2 1 0 4 ∷ []) ∷
    two_runs 2 (2 ∷ []) (0 ∷ 2 ∷ []) 1
    (step_of 0 2 4 0 ∷ [])
    (step_of 2 2 4 0 ∷ []) ∷
    two_runs 2 (2 ∷ []) (1 ∷ 1 ∷ []) 2
    (step_of 0 2 4 0 ∷ step_of 1 1 0 2 ∷ step_of 1 1 0 6 ∷ [])
    (step_of 1 1 0 6 ∷ []) ∷
    two_runs 2 (2 ∷ []) (1 ∷ 2 ∷ []) 1
    (step_of 0 2 4 0 ∷ [])
    (step_of 2 2 4 0 ∷ []) ∷
    two_runs 2 (2 ∷ []) (2 ∷ 2 ∷ []) 2
    (step_of 0 2 4 0 ∷ [])
    (step_of 1 2 4 0 ∷ []) ∷
    two_runs 3 (2 ∷ []) (2 ∷ 2 ∷ []) 2
    (step_of 0 2 3 1 ∷ [])
    (step_of 1 2 3 1 ∷ []) ∷
    two_runs 4 (2 ∷ []) (2 ∷ 2 ∷ []) 2
    (step_of 0 2 3 2 ∷ [])
    (step_of 1 2 3 2 ∷ []) ∷
    two_runs 5 (2 ∷ []) (2 ∷ 2 ∷ []) 2
    (step_of 0 2 4 1 ∷ [])
    (step_of 1 2 4 1 ∷ []) ∷
    two_runs 6 (2 ∷ []) (2 ∷ 2 ∷ []) 2
    (step_of 0 2 4 2 ∷ [])
    (step_of 1 2 4 2 ∷ []) ∷
    []

abbrev pub cas_3_bool : TypeTable
cas_3_bool = record {
  name = codes "cas_3_bool";
  states = codes "0" ∷ codes "1" ∷ codes "2" ∷ [];
  responses = codes "yes" ∷ codes "no" ∷ [];
  operations =
      record {
        name = codes "cas01";
        response = 0 ∷ 1 ∷ 1 ∷ [];
        next = 1 ∷ 1 ∷ 2 ∷ [];
      } ∷
      record {
        name = codes "cas02";
        response = 0 ∷ 1 ∷ 1 ∷ [];
        next = 2 ∷ 1 ∷ 2 ∷ [];
      } ∷
      record {
        name = codes "cas10";
        response = 1 ∷ 0 ∷ 1 ∷ [];
        next = 0 ∷ 0 ∷ 2 ∷ [];
      } ∷
      record {
        name = codes "cas12";
        response = 1 ∷ 0 ∷ 1 ∷ [];
        next = 0 ∷ 2 ∷ 2 ∷ [];
      } ∷
      record {
        name = codes "cas20";
        response = 1 ∷ 1 ∷ 0 ∷ [];
        next = 0 ∷ 1 ∷ 0 ∷ [];
      } ∷
      record {
        name = codes "cas21";
        response = 1 ∷ 1 ∷ 0 ∷ [];
        next = 0 ∷ 1 ∷ 1 ∷ [];
      } ∷
      [];
}

-- 42 of 4 processes
abbrev pub plays_of_cas_3_bool : List TwoRuns
plays_of_cas_3_bool =
    two_runs 0 (0 ∷ []) (0 ∷ 0 ∷ 0 ∷ []) 2
    (step_of 0 0 0 1 ∷ [])
    (step_of 1 0 0 1 ∷ []) ∷
    two_runs 0 (0 ∷ []) (0 ∷ 0 ∷ 1 ∷ []) 2
    (step_of 0 0 0 1 ∷ [])
    (step_of 1 0 0 1 ∷ []) ∷
    two_runs 0 (0 ∷ []) (0 ∷ 1 ∷ 1 ∷ []) 2
    (step_of 0 0 0 1 ∷ [])
    (step_of 1 0 0 1 ∷ []) ∷
    two_runs 0 (0 ∷ []) (1 ∷ 1 ∷ 1 ∷ []) 1
    (step_of 0 0 0 1 ∷ step_of 2 1 1 1 ∷ step_of 2 2 0 0 ∷ step_of 1 1 0 2 ∷ [])
    (step_of 1 1 0 2 ∷ step_of 2 1 1 2 ∷ []) ∷
    two_runs 0 (1 ∷ []) (0 ∷ 0 ∷ 0 ∷ []) 1
    (step_of 0 1 0 2 ∷ step_of 2 0 1 2 ∷ step_of 2 4 0 0 ∷ step_of 1 0 0 1 ∷ [])
    (step_of 1 0 0 1 ∷ step_of 2 0 1 1 ∷ []) ∷
    two_runs 0 (1 ∷ []) (0 ∷ 0 ∷ 1 ∷ []) 1
    (step_of 0 1 0 2 ∷ [])
    (step_of 3 1 0 2 ∷ []) ∷
    two_runs 0 (1 ∷ []) (0 ∷ 1 ∷ 1 ∷ []) 1
    (step_of 0 1 0 2 ∷ [])
    (step_of 2 1 0 2 ∷ []) ∷
    two_runs 0 (1 ∷ []) (1 ∷ 1 ∷ 1 ∷ []) 2
    (step_of 0 1 0 2 ∷ [])
    (step_of 1 1 0 2 ∷ []) ∷
    two_runs 0 (0 ∷ 0 ∷ []) (0 ∷ 0 ∷ []) 1
    (step_of 0 0 0 1 ∷ [])
    (step_of 2 0 0 1 ∷ []) ∷
    two_runs 0 (0 ∷ 0 ∷ []) (0 ∷ 1 ∷ []) 1
    (step_of 0 0 0 1 ∷ [])
    (step_of 2 0 0 1 ∷ []) ∷
    two_runs 0 (0 ∷ 0 ∷ []) (1 ∷ 1 ∷ []) 2
    (step_of 0 0 0 1 ∷ step_of 1 0 1 1 ∷ step_of 1 2 0 0 ∷ step_of 2 1 0 2 ∷ [])
    (step_of 2 1 0 2 ∷ step_of 1 0 1 2 ∷ []) ∷
    two_runs 0 (0 ∷ 1 ∷ []) (0 ∷ 1 ∷ []) 1
    (step_of 0 0 0 1 ∷ [])
    (step_of 2 0 0 1 ∷ []) ∷
    two_runs 0 (0 ∷ 1 ∷ []) (1 ∷ 1 ∷ []) 0
    (step_of 1 1 0 2 ∷ [])
    (step_of 2 1 0 2 ∷ []) ∷
    two_runs 0 (1 ∷ 1 ∷ []) (1 ∷ 1 ∷ []) 1
    (step_of 0 1 0 2 ∷ [])
    (step_of 2 1 0 2 ∷ []) ∷
    two_runs 1 (2 ∷ []) (2 ∷ 2 ∷ 2 ∷ []) 2
    (step_of 0 2 0 0 ∷ [])
    (step_of 1 2 0 0 ∷ []) ∷
    two_runs 1 (2 ∷ []) (2 ∷ 2 ∷ 3 ∷ []) 2
    (step_of 0 2 0 0 ∷ [])
    (step_of 1 2 0 0 ∷ []) ∷
    two_runs 1 (2 ∷ []) (2 ∷ 3 ∷ 3 ∷ []) 2
    (step_of 0 2 0 0 ∷ [])
    (step_of 1 2 0 0 ∷ []) ∷
    two_runs 1 (2 ∷ []) (3 ∷ 3 ∷ 3 ∷ []) 3
    (step_of 0 2 0 0 ∷ step_of 2 3 1 0 ∷ step_of 2 1 0 2 ∷ [])
    (step_of 1 3 0 2 ∷ step_of 2 3 1 2 ∷ []) ∷
    two_runs 1 (3 ∷ []) (2 ∷ 2 ∷ 2 ∷ []) 3
    (step_of 0 3 0 2 ∷ step_of 2 2 1 2 ∷ step_of 2 1 1 2 ∷ [])
    (step_of 1 2 0 0 ∷ step_of 2 2 1 0 ∷ step_of 2 1 0 2 ∷ []) ∷
    two_runs 1 (3 ∷ []) (2 ∷ 2 ∷ 3 ∷ []) 1
    (step_of 0 3 0 2 ∷ [])
    (step_of 3 3 0 2 ∷ []) ∷
    two_runs 1 (3 ∷ []) (2 ∷ 3 ∷ 3 ∷ []) 1
    (step_of 0 3 0 2 ∷ [])
    (step_of 2 3 0 2 ∷ []) ∷
    two_runs 1 (3 ∷ []) (3 ∷ 3 ∷ 3 ∷ []) 2
    (step_of 0 3 0 2 ∷ [])
    (step_of 1 3 0 2 ∷ []) ∷
    two_runs 1 (2 ∷ 2 ∷ []) (2 ∷ 2 ∷ []) 1
    (step_of 0 2 0 0 ∷ [])
    (step_of 2 2 0 0 ∷ []) ∷
    two_runs 1 (2 ∷ 2 ∷ []) (2 ∷ 3 ∷ []) 1
    (step_of 0 2 0 0 ∷ [])
    (step_of 2 2 0 0 ∷ []) ∷
    two_runs 1 (2 ∷ 2 ∷ []) (3 ∷ 3 ∷ []) 3
    (step_of 0 2 0 0 ∷ step_of 1 2 1 0 ∷ step_of 1 1 0 2 ∷ [])
    (step_of 2 3 0 2 ∷ step_of 1 2 1 2 ∷ []) ∷
    two_runs 1 (2 ∷ 3 ∷ []) (2 ∷ 3 ∷ []) 1
    (step_of 0 2 0 0 ∷ [])
    (step_of 2 2 0 0 ∷ []) ∷
    two_runs 1 (2 ∷ 3 ∷ []) (3 ∷ 3 ∷ []) 0
    (step_of 1 3 0 2 ∷ [])
    (step_of 2 3 0 2 ∷ []) ∷
    two_runs 1 (3 ∷ 3 ∷ []) (3 ∷ 3 ∷ []) 1
    (step_of 0 3 0 2 ∷ [])
    (step_of 2 3 0 2 ∷ []) ∷
    two_runs 2 (4 ∷ []) (4 ∷ 4 ∷ 4 ∷ []) 2
    (step_of 0 4 0 0 ∷ [])
    (step_of 1 4 0 0 ∷ []) ∷
    two_runs 2 (4 ∷ []) (4 ∷ 4 ∷ 5 ∷ []) 2
    (step_of 0 4 0 0 ∷ [])
    (step_of 1 4 0 0 ∷ []) ∷
    two_runs 2 (4 ∷ []) (4 ∷ 5 ∷ 5 ∷ []) 2
    (step_of 0 4 0 0 ∷ [])
    (step_of 1 4 0 0 ∷ []) ∷
    two_runs 2 (4 ∷ []) (5 ∷ 5 ∷ 5 ∷ []) 3
    (step_of 0 4 0 0 ∷ step_of 2 5 1 0 ∷ step_of 2 0 0 1 ∷ [])
    (step_of 1 5 0 1 ∷ step_of 2 5 1 1 ∷ []) ∷
    two_runs 2 (5 ∷ []) (4 ∷ 4 ∷ 4 ∷ []) 3
    (step_of 0 5 0 1 ∷ step_of 2 4 1 1 ∷ step_of 2 2 0 0 ∷ [])
    (step_of 1 4 0 0 ∷ step_of 2 4 1 0 ∷ []) ∷
    two_runs 2 (5 ∷ []) (4 ∷ 4 ∷ 5 ∷ []) 1
    (step_of 0 5 0 1 ∷ [])
    (step_of 3 5 0 1 ∷ []) ∷
    two_runs 2 (5 ∷ []) (4 ∷ 5 ∷ 5 ∷ []) 1
    (step_of 0 5 0 1 ∷ [])
    (step_of 2 5 0 1 ∷ []) ∷
    two_runs 2 (5 ∷ []) (5 ∷ 5 ∷ 5 ∷ []) 2
    (step_of 0 5 0 1 ∷ [])
    (step_of 1 5 0 1 ∷ []) ∷
    two_runs 2 (4 ∷ 4 ∷ []) (4 ∷ 4 ∷ []) 1
    (step_of 0 4 0 0 ∷ [])
    (step_of 2 4 0 0 ∷ []) ∷
    two_runs 2 (4 ∷ 4 ∷ []) (4 ∷ 5 ∷ []) 1
    (step_of 0 4 0 0 ∷ [])
    (step_of 2 4 0 0 ∷ []) ∷
    two_runs 2 (4 ∷ 4 ∷ []) (5 ∷ 5 ∷ []) 3
    (step_of 0 4 0 0 ∷ step_of 1 4 1 0 ∷ step_of 1 0 0 1 ∷ [])
    (step_of 2 5 0 1 ∷ step_of 1 4 1 1 ∷ []) ∷
    two_runs 2 (4 ∷ 5 ∷ []) (4 ∷ 5 ∷ []) 1
    (step_of 0 4 0 0 ∷ [])
    (step_of 2 4 0 0 ∷ []) ∷
    two_runs 2 (4 ∷ 5 ∷ []) (5 ∷ 5 ∷ []) 0
    (step_of 1 5 0 1 ∷ [])
    (step_of 2 5 0 1 ∷ []) ∷
    two_runs 2 (5 ∷ 5 ∷ []) (5 ∷ 5 ∷ []) 1
    (step_of 0 5 0 1 ∷ [])
    (step_of 2 5 0 1 ∷ []) ∷
    []
