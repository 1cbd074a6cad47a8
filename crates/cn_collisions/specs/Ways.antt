-- The ways in which an order can go on, and their ends.
use Rattle.std.specs.Prelude.{◌≡◌, ◌≢◌, ℕ, ◌^◌, ◌<◌, ◌≤◌, ◌⊎◌, List, [], ◌∷◌, length, nat_eq}
use Rattle.std.specs.Prelude.{if◌then◌else◌, Option, Some, None, IsBitSet, slice_index}
use Rattle.std.specs.Int.Bits.{bit_or}
use Rattle.std.specs.Ordering.{nat_cmp}
use Rattle.std.specs.declared.cmp.Ordering.TheVariants.{Less}
use Rattle.std.specs.Cmp.Lexicographic.{slice_cmp}
use Rattle.cn_table.specs.TypeTable.{TypeTable}
use Rattle.cn_choice.specs.RawChoices.{RawChoice}
use Rattle.cn_choice.specs.Moves.{answer_of, next_of}
use Rattle.cn_stocks.specs.declared.pair_sets.PairSet.{PairSet}
use Rattle.cn_stocks.specs.Pairs.{Has}

-- some of n processes, none twice and none of the used ones
abbrev pub IsFresh : ℕ → ℕ → List ℕ → Type 0
IsFresh n used [] = Unit {0}
IsFresh n used (p ∷ ps) = (p < n) × ¬ IsBitSet used p × IsFresh n (bit_or used (2 ^ p)) ps

-- the first of them, if there is one, is from low on and below high
abbrev pub BeginsWithin : ℕ → ℕ → List ℕ → Type 0
BeginsWithin low high [] = Unit {0}
BeginsWithin low high (p ∷ ps) = (low ≤ p) × (p < high)

-- a way to go on with this many of n processes, of which the first is within the bounds
pub record IsWay (n size low high used : ℕ) (ps : List ℕ) : Type 0 where
  pub long : length ps ≡ size
  pub begins : BeginsWithin low high ps
  pub fresh : IsFresh n used ps

-- the response of process j, which is that to its first move
abbrev pub seen_after : ℕ → ℕ → ℕ → Option ℕ → Option ℕ
seen_after j p response None = if nat_eq p j then Some response else None
seen_after j p response (Some seen) = Some seen

-- if these move from this state, process j has got the response of the pair, now or before, and the
-- last state is that of the pair
abbrev pub Ends : TypeTable → RawChoice → ℕ → ℕ → Option ℕ → List ℕ → ℕ × ℕ → Type 0
Ends t c j state seen [] pair = (seen ≡ Some pair.0) × (state ≡ pair.1)
Ends t c j state seen (p ∷ ps) pair =
    Ends t c j (next_of t c p state) (seen_after j p (answer_of t c p state) seen) ps pair

-- some way to go on with exactly this many processes ends with the pair
abbrev pub WayTo : TypeTable → RawChoice → ℕ → ℕ → ℕ → ℕ → Option ℕ → ℕ → ℕ → Type 0
WayTo t c j size used state seen response last =
    (ps : List ℕ) × (length ps ≡ size) × IsFresh (length c.operations) used ps
    × Ends t c j state seen ps (response, last)

-- some way to go on from a first process ends with the pair
abbrev pub StepWay : TypeTable → RawChoice → ℕ → ℕ → ℕ → ℕ → Type 0
StepWay t c j p r q =
    (k : ℕ) × (k < length c.operations) × WayTo t c j k (bit_or 0 (2 ^ p)) (next_of t c p c.state)
    (seen_after j p (answer_of t c p c.state) None) r q

-- the pair is one of the set
abbrev pub Hits : TypeTable → RawChoice → ℕ → PairSet → ℕ → Option ℕ → List ℕ → Type 0
Hits t c j set state seen ps =
    (pair : ℕ × ℕ) × Ends t c j state seen ps pair × Has set pair.0 pair.1

-- no way leads into the set
abbrev pub NoWay : TypeTable → RawChoice → ℕ → PairSet → ℕ → ℕ → ℕ → ℕ → ℕ → Option ℕ → Type 0
NoWay t c j set size low high used state seen = (x : List ℕ)
    → IsWay (length c.operations) size low high used x → ¬ Hits t c j set state seen x

-- no such way that begins with the process leads into it
abbrev pub LeadsNowhere : TypeTable → RawChoice → ℕ → PairSet → ℕ → ℕ → ℕ → ℕ
    → ℕ → Option ℕ → ℕ → Type 0
LeadsNowhere t c j set size low high used state seen p =
    (ps : List ℕ) → IsWay (length c.operations) size low high used (p ∷ ps)
    → ¬ Hits t c j set state seen (p ∷ ps)

-- the first way, in lexicographic order, that leads into the set, and its pair
pub record IsFirstWay (t : TypeTable) (c : RawChoice) (j : ℕ) (set : PairSet)
    (size low high used state : ℕ) (seen : Option ℕ)
    (ps : List ℕ) (pair : ℕ × ℕ) : Type 0 where
  pub way : IsWay (length c.operations) size low high used ps
  pub ends : Ends t c j state seen ps pair
  pub has : Has set pair.0 pair.1
  pub earlier : (x : List ℕ) → IsWay (length c.operations) size low high used x
      → slice_cmp nat_cmp x ps ≡ Less → ¬ Hits t c j set state seen x

-- a process from low on and below the end that is not j and has not moved has this operation
abbrev pub IsTried : RawChoice → ℕ → ℕ → ℕ → ℕ → ℕ → Type 0
IsTried c j low end used operation = (p : ℕ) × (low ≤ p) × (p < end) × (p ≢ j) × ¬ IsBitSet used p
    × (slice_index c.operations p ≡ operation)

-- a process that need not move next: it has moved, or it is not j and its operation was tried
abbrev pub IsPassed : RawChoice → ℕ → ℕ → ℕ → ℕ → Type 0
IsPassed c j used tried p =
    IsBitSet used p ⊎ ((p ≢ j) × IsBitSet tried (slice_index c.operations p))

-- a process that need not move next: it has moved, or it is not j and its operation is that of an
-- earlier one from low on
abbrev pub IsCovered : RawChoice → ℕ → ℕ → ℕ → ℕ → Type 0
IsCovered c j low used p =
    IsBitSet used p ⊎ ((p ≢ j) × IsTried c j low p used (slice_index c.operations p))
