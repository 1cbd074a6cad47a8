-- Operations of a meeting, in memory and by their numbers.
use Rattle.std.proofs.Common.{ℕ, ◌≡◌, ◌<◌, List, length, map, slice_index, slice_index_or}
use Rattle.std.proofs.lemmas.List.{get_or-map}
use Rattle.cn_table.specs.declared.elements.Operation.{Operation}

pub operation_at : (operations : List Operation) (k : ℕ) → k < length operations
    → slice_index (map (λ (o : Operation). o.0) operations) k ≡ (slice_index_or operations k (record { 0 = 0 })).0
operation_at operations k l = get_or-map (λ (o : Operation). o.0) operations k (record { 0 = 0 }) 0 l
