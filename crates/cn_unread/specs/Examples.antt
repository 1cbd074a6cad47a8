-- A type as an example.
use Rattle.std.specs.Prelude.{[], ◌∷◌}
use Rattle.cn_table.specs.TypeTable.{TypeTable}

-- A queue with room for one of two letters. States: empty, or with the letter a or b. Operations: to
-- put in a or b, and to take out what is in it. Responses: it is done; it is full; it is empty; the
-- letter a; the letter b.
-- Source: Herlihy, Wait-free synchronization, 1991: queues.
abbrev pub queue_1 : TypeTable
queue_1 = record {
  name = [];
  states = [] ∷ [] ∷ [] ∷ [];
  responses = [] ∷ [] ∷ [] ∷ [] ∷ [] ∷ [];
  operations =
      record { name = []; response = 0 ∷ 1 ∷ 1 ∷ []; next = 1 ∷ 1 ∷ 2 ∷ [] }
      ∷ record { name = []; response = 0 ∷ 1 ∷ 1 ∷ []; next = 2 ∷ 1 ∷ 2 ∷ [] }
      ∷ record { name = []; response = 2 ∷ 3 ∷ 4 ∷ []; next = 0 ∷ 0 ∷ 0 ∷ [] } ∷ [];
}
