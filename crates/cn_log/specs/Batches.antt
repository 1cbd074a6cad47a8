-- Batches: the calls that a slot takes, of each process one at most.
use Rattle.std.specs.Prelude.{ℕ, zero, suc, ◌≡◌, ◌==◌, ◌&&◌, ◌^◌, Bool, false, if◌then◌else◌, List}
use Rattle.std.specs.Prelude.{[], ◌∷◌, ◌++◌, map, replicate, slice_index_or, slice_set, bit_or}
use Rattle.std.specs.Prelude.{Option, Some, None}
use Rattle.std.specs.Int.{bit_at}
use Rattle.cn_table.specs.declared.elements.Operation.{Operation}
use Rattle.cn_log.specs.declared.entry.Entry.{Entry}
use Rattle.cn_log.specs.declared.batch.Batch.{Batch}
use Rattle.cn_choice.specs.declared.limits.TheConstants.{MOST_PROCESSES}

abbrev pub same_entry : Entry → Entry → Bool
same_entry e f =
    (e.process == f.process) && ((e.operation.0 == f.operation.0) && (e.call == f.call))

abbrev first_operation : Operation
first_operation = record { 0 = 0 }

abbrev pub no_entries : Batch
no_entries = record {
  calls = replicate MOST_PROCESSES 0;
  operations = replicate MOST_PROCESSES first_operation;
  callers = 0;
}

-- process p has a call in the batch
abbrev pub has_caller : Batch → ℕ → Bool
has_caller b p = bit_at b.callers p == 1

-- the entry of process p: its call, if it has one in the batch
abbrev pub entry_at : Batch → ℕ → Option Entry
entry_at b p =
    if has_caller b p
    then Some (record {
      process = p;
      operation = slice_index_or b.operations p first_operation;
      call = slice_index_or b.calls p 0;
    })
    else None

-- the same with the call of this entry as that of process p
abbrev pub with_entry : Batch → ℕ → Entry → Batch
with_entry b p e = record {
  calls = slice_set b.calls p e.call;
  operations = slice_set b.operations p e.operation;
  callers = bit_or b.callers (2 ^ p);
}

-- the entry is in the batch
abbrev pub HoldsEntry : Batch → Entry → Type 0
HoldsEntry b e = entry_at b e.process ≡ Some e

abbrev pub is_entry : Option Entry → Entry → Bool
is_entry None e = false
is_entry (Some f) e = same_entry f e

abbrev pub has : Batch → Entry → Bool
has b e = is_entry (entry_at b e.process) e

abbrev pub and_entry : Option Entry → List Entry → List Entry
and_entry None rest = rest
and_entry (Some e) rest = e ∷ rest

-- the entries of this many processes from process p on, in order
abbrev pub members : ℕ → ℕ → Batch → List Entry
members zero p b = []
members (suc many) p b = and_entry (entry_at b p) (members many (suc p) b)

-- the entries of n processes in the batches, by batch, then by process
abbrev pub entries_in : ℕ → List Batch → List Entry
entries_in n [] = []
entries_in n (b ∷ bs) = members n 0 b ++ entries_in n bs

-- for each of these entries slot k
abbrev pub each_slot : ℕ → List Entry → List ℕ
each_slot k entries = map (λ e. k) entries

-- the slot of each of these entries, if slot k is that of the first batch
abbrev pub slots_from : ℕ → ℕ → List Batch → List ℕ
slots_from n k [] = []
slots_from n k (b ∷ bs) = each_slot k (members n 0 b) ++ slots_from n (suc k) bs
