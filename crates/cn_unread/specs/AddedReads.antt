-- A type with a read as one more operation.
-- Source: Ruppert, Determining consensus numbers, 2000: readable types.
use Rattle.std.specs.Prelude.{◌≡◌, ℕ, suc, ◌<◌, [], ◌∷◌, ◌++◌, length}
use Rattle.std.specs.List.{range_with_len}
use Rattle.cn_table.specs.TypeTable.{TypeTable, transition}

-- u is the type t with a read: one more operation, behind those of t, that changes nothing and has
-- another response in each state
pub record AddsRead (t u : TypeTable) : Type 0 where
  pub same_states : length u.states ≡ length t.states
  pub one_more : length u.operations ≡ suc (length t.operations)
  pub same_operations : (o q : ℕ) → o < length t.operations → q < length t.states
      → transition u o q ≡ transition t o q
  pub leaves : (q : ℕ) → q < length t.states → (transition u (length t.operations) q).1 ≡ q
  pub tells : (p q : ℕ) → p < length t.states → q < length t.states
      → (transition u (length t.operations) p).0 ≡ (transition u (length t.operations) q).0 → p ≡ q

-- the type with a read whose responses are the names of the states
abbrev pub with_read : TypeTable → TypeTable
with_read t = record {
  name = t.name;
  states = t.states;
  responses = t.responses ++ t.states;
  operations = t.operations ++ record {
    name = [];
    response = range_with_len (length t.responses) (length t.states);
    next = range_with_len 0 (length t.states);
  } ∷ [];
}
