-- What a search finds is within the ranges of a certificate.
use Rattle.std.proofs.Common.{◌≡◌, ◌↔◌, ℕ, ◌+◌, ◌-◌, ◌≤◌, ◌<◌, Contains, List, [], ◌∷◌, length, Bool, true, false, Option, Some, None, IsSomeAnd, nat_le, nat_lt, arith, refl, sym, le-leb, ltb-true, length-append}
use Rattle.std.proofs.lemmas.List.{length-map}
use Rattle.std.proofs.lemmas.List.Elements.{All-contains_itself, All-weaker, recursion_from_All}
use Rattle.std.specs.List.{AllByRecursion, AllZip, list_all}
use Rattle.std.specs.Prelude.{MatchOption}
use Rattle.cn_table.proofs.Lists.{All-parts, Contains-between}
use Rattle.cn_table.specs.TypeTable.{TypeTable, IsTypeTable}
use Rattle.cn_table.specs.declared.limits.TheConstants.{MOST_STATES}
use Rattle.cn_choice.specs.Canonical.{Choice, IsCanonical, raw_choice_of}
use Rattle.cn_choice.specs.Collisions.{Collision, IsCollision}
use Rattle.cn_choice.specs.Discerning.{IsNumberUpTo}
use Rattle.cn_choice.specs.Live.{IsLive, live_choices}
use Rattle.cn_choice.specs.Orders.{IsOrder}
use Rattle.cn_choice.specs.RawChoices.{RawChoice, IsRawChoice}
use Rattle.cn_choice.specs.OutcomeSets.{InOutcomeSet, pair_of}
use Rattle.cn_choice.specs.declared.team.Team.{Team}
use Rattle.cn_choice.specs.declared.team.Team.TheVariants.{A}
use Rattle.cn_finding.specs.Evidence.{IsFindingFor, IsFirstWitness, IsRecordedFor, choices_to_refute}
use Rattle.cn_finding.specs.Finding.{Finding}
use Rattle.cn_cert.specs.Certificate.{certificate_of}
use Rattle.cn_cert.specs.Ranges.{is_choice_in_range, is_collision_in_range, is_in_range, is_number_in_range, is_short, is_witness_in_range}
use Rattle.cn_choice.specs.declared.limits.TheConstants.{MOST_PROCESSES}

-- ---- lists of numbers

all_small : (bound : ℕ) (ns : List ℕ) → bound ≤ MOST_PROCESSES → AllByRecursion (λ n. n < bound) ns → list_all (λ n. nat_le n (MOST_PROCESSES - 1)) ns ≡ true
all_small bound [] low below = refl
all_small bound (n ∷ ns) low below = rw (le-leb n (MOST_PROCESSES - 1) (omega (arith, below.0)), all_small bound ns low below.1)

short : (bound : ℕ) (ns : List ℕ) → bound ≤ MOST_PROCESSES → length ns ≤ MOST_PROCESSES → AllByRecursion (λ n. n < bound) ns → is_short ns ≡ true
short bound ns low few below = rw (le-leb (length ns) MOST_PROCESSES few, all_small bound ns low below)

-- ---- what the laws of orders, of outcome sets and of the live choices say

abbrev pub AreShort : Type 0
AreShort = (n : ℕ) (order : List ℕ) → IsOrder n order → length order ≤ n

abbrev pub AreOfProcesses : Type 0
AreOfProcesses = (t : TypeTable) (c : RawChoice) (team : Team) (j : ℕ) (pair : ℕ × ℕ) → InOutcomeSet t c team j pair → j < length c.operations

abbrev pub AreListed : Type 0
AreListed = (t : TypeTable) (n : ℕ) (c : Choice) → Contains (live_choices t n) c ↔ (IsCanonical c × IsRawChoice t n (raw_choice_of c) × IsLive t (raw_choice_of c))

-- ---- a table, and as many processes as there may be

module _ (few_moves : AreShort) (of_processes : AreOfProcesses) (t : TypeTable) (table : IsTypeTable t) (n : ℕ) (few : n ≤ MOST_PROCESSES) where
  choice_in_range : (c : Choice) → IsRawChoice t n (raw_choice_of c) → is_choice_in_range c ≡ true
  choice_in_range c is =
      let parts = All-parts (λ o. o < length t.operations) c.a c.b is.operations_known in
      let a_known = recursion_from_All (λ o. o < length t.operations) c.a parts.0 in
      let b_known = recursion_from_All (λ o. o < length t.operations) c.b parts.1 in
      let operations : length t.operations ≤ MOST_PROCESSES = omega (arith, table.operations.few, length-map t.operations (λ row. row.name)) in
      let a_short = short (length t.operations) c.a operations (omega (arith, is.one_operation_each, length-append c.a c.b)) a_known in
      let b_short = short (length t.operations) c.b operations (omega (arith, is.one_operation_each, length-append c.a c.b)) b_known in
      rw (le-leb c.state (MOST_STATES - 1) (omega (arith, is.state_known, table.states.few)), a_short, b_short)

  order_short : (m : ℕ) (order : List ℕ) → m ≡ n → IsOrder m order → is_short order ≡ true
  order_short m order e is =
      let known = recursion_from_All (λ p. p < m) order is.known in
      short m order (omega (arith, e, few)) (omega (arith, e, few, few_moves m order is)) known

  process_small : (c : RawChoice) (j : ℕ) (alpha beta : List ℕ) → IsCollision t c j alpha beta → j < length c.operations
  process_small c j alpha beta is = from (pair_of t c alpha j) refl
    where
      from : (seen : Option (ℕ × ℕ)) → pair_of t c alpha j ≡ seen → j < length c.operations
      from None e = absurd (is.takes_part e)
      from (Some pair) e = of_processes t c A j pair (alpha, is.alpha_order, is.alpha_in_a, e)

  collision_in_range : (c : Choice) (x : Collision) → IsRawChoice t n (raw_choice_of c) → IsRecordedFor t c x → is_collision_in_range x ≡ true
  collision_in_range c x is recorded =
      let found = recorded.1.collision in
      let process = process_small (raw_choice_of c) x.process x.alpha x.beta found in
      rw (recorded.0, choice_in_range c is, le-leb x.process (MOST_PROCESSES - 1) (omega (arith, process, is.one_operation_each, few)))
      (rw (order_short _ x.alpha is.one_operation_each found.alpha_order, order_short _ x.beta is.one_operation_each found.beta_order))

  collisions_in_range : (cs : List Choice) (xs : List Collision) → AllByRecursion (λ c. IsRawChoice t n (raw_choice_of c)) cs → AllZip (IsRecordedFor t) cs xs
      → list_all is_collision_in_range xs ≡ true
  collisions_in_range [] [] raw each = refl
  collisions_in_range [] (x ∷ xs) raw each = absurd each
  collisions_in_range (c ∷ cs) [] raw each = refl
  collisions_in_range (c ∷ cs) (x ∷ xs) raw each = rw (collision_in_range c x raw.0 each.0, collisions_in_range cs xs raw.1 each.1)

-- ---- a finding

module _ (few_moves : AreShort) (of_processes : AreOfProcesses) (listed : AreListed) where
  all_raw : (t : TypeTable) (n : ℕ) → AllByRecursion (λ c. IsRawChoice t n (raw_choice_of c)) (live_choices t n)
  all_raw t n = recursion_from_All _ (live_choices t n)
      (All-weaker (Contains (live_choices t n)) _ (λ c in_list. ((listed t n c).0 in_list).1) (live_choices t n) (All-contains_itself (live_choices t n)))

  witness_in_range : (t : TypeTable) → IsTypeTable t → (n : ℕ) → n ≤ MOST_PROCESSES → (w : Option Choice) → IsSomeAnd w (IsFirstWitness t (live_choices t n)) → is_witness_in_range w ≡ true
  witness_in_range t table n few None is = absurd is
  witness_in_range t table n few (Some c) is = choice_in_range few_moves of_processes t table n few c ((listed t n c).0 (Contains-between _ is.before is.after c (sym is.listed))).1

  evidence_in_range : (t : TypeTable) → IsTypeTable t → (limit : ℕ) → limit ≤ MOST_PROCESSES → (number : Option ℕ) (w : Option Choice) (xs : List Collision) → IsNumberUpTo t limit number
      → MatchOption number (w ≡ None) (λ n. IsSomeAnd w (IsFirstWitness t (live_choices t n))) → AllZip (IsRecordedFor t) (choices_to_refute t limit number) xs
      → (is_number_in_range number ≡ true) × (is_witness_in_range w ≡ true) × (list_all is_collision_in_range xs ≡ true)
  evidence_in_range t table limit few None w xs number nothing each =
      (refl, rw nothing refl, collisions_in_range few_moves of_processes t table 2 (omega arith) (live_choices t 2) xs (all_raw t 2) each)
  evidence_in_range t table limit few (Some n) w xs number first each = (
    le-leb n 255 (omega (arith, number.1, few)),
    witness_in_range t table n (omega (arith, number.1, few)) w first,
    refuted (nat_lt n limit) refl,
  )
    where
      refuted : (more : Bool) → nat_lt n limit ≡ more → list_all is_collision_in_range xs ≡ true
      refuted true less = let below : n < limit = ltb-true n limit less in collisions_in_range few_moves of_processes t table (n + 1) (omega (arith, below, few))
          (live_choices t (n + 1)) xs (all_raw t (n + 1)) (rw less at each)
      refuted false whole = collisions_in_range few_moves of_processes t table n (omega (arith, number.1, few)) [] xs tt (rw whole at each)

  pub finding_in_range : (t : TypeTable) (limit : ℕ) (f : Finding) → IsTypeTable t → limit ≤ MOST_PROCESSES → IsFindingFor t limit f → is_in_range (certificate_of t.name f) ≡ true
  finding_in_range t limit f table few is =
      let evidence = evidence_in_range t table limit few f.number f.witness f.collisions is.number is.witness is.collisions in
      let name = table.name in
      rw (le-leb f.limit 255 (omega (arith, is.same_limit, few)), evidence.0, evidence.1, evidence.2) name
