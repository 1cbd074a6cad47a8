-- Faults in the order in which the check looks for them.
use Rattle.std.proofs.Common.{◌≡◌, ◌≢◌, ℕ, ◌+◌, ◌<◌, ◌≤◌, ◌⊎◌, inl, inr, List, refl, sym, ap, subst, arith, Option, Some, None, All}
use Rattle.std.specs.Prelude.{IsSomeAnd, slice_get}
use Rattle.std.proofs.lemmas.List.Elements.{All-get_or}
use Rattle.std.proofs.lemmas.Option.{get_or_from_slice_get, same_Some, slice_get_within}
use Rattle.cn_table.specs.TypeTable.{TypeTable}
use Rattle.cn_choice.specs.Canonical.{Choice}
use Rattle.cn_joins.specs.Evidence.{ConnectAll, IsEvidenceAgainst, SomeNotices}
use Rattle.cn_joins.specs.Joins.{IsJoin, Join}
use Rattle.cn_stock_cert.specs.Certificate.{StockCertificate}
use Rattle.cn_stock_cert.specs.LastingSets.{AreLastingSets, LastingSets}
use Rattle.cn_stock_cert.specs.Right.{AreInRange, IsRight, ShowsAtLeast, ShowsAtMost}
use Rattle.cn_stock_cert.specs.declared.certificate.StockClaim.{StockClaim}
use Rattle.cn_stock_cert.specs.declared.certificate.StockClaim.TheVariants.{Alone, Lasting, Witness}
use Rattle.cn_stock_check.specs.FaultText.{stock_check_fault_number}
use Rattle.cn_stock_check.specs.Faults.{AreThereFor, ComesSooner, HasFault, IsClaimFor, IsFirstFault, IsLeftOpen, IsOtherJoin, NoticesItselfSomewhere, carried}
use Rattle.cn_stock_check.specs.JoinFaults.{HasJoinFault, IsFirstJoinFault}
use Rattle.cn_stock_check.specs.LeastFaults.{HasLeastFault, IsFirstLeastFault, IsWitnessFault}
use Rattle.cn_stock_check.specs.MostFaults.{HasMostFault, IsFirstMostFault}
use Rattle.cn_stock_check.specs.Needs.{ConnectFrom}
use Rattle.cn_stock_check.specs.declared.fault.StockCheckFault.{StockCheckFault}
use Rattle.cn_stock_check.specs.declared.fault.StockCheckFault.TheVariants as fault

-- ---- what comes sooner

-- a number from which on the faults are of some kind
at_most : (f e : StockCheckFault) → ComesSooner f e → stock_check_fault_number f ≤ stock_check_fault_number e
at_most f e (inl l) = omega (arith, l)
at_most f e (inr h) = let l = h.0 in omega (arith, l)

never_itself : (e : StockCheckFault) → ComesSooner e e → ⊥
never_itself e (inl l) = absurd (omega (arith, l))
never_itself e (inr h) = let l = h.1 in absurd (omega (arith, l))

-- nothing with one number is before what carries nothing
below_it : (f e : StockCheckFault) → ComesSooner f e → carried e ≡ 0 → stock_check_fault_number f < stock_check_fault_number e
below_it f e (inl l) z = l
below_it f e (inr h) z = let l = h.1 in absurd (omega (arith, l, z))

too_late : (f e : StockCheckFault) (P : Type 0) → ComesSooner f e → stock_check_fault_number e < stock_check_fault_number f → P
too_late f e P s l = let m = at_most f e s in absurd (omega (arith, m, l))

-- ---- joins

other_or : (t : TypeTable) (joins : List Join) (i : ℕ) → IsOtherJoin t joins i → (join : Join) × (slice_get joins i ≡ Some join) × (¬ IsJoin t join)
other_or t joins i h = by (slice_get joins i) refl h
  where
    by : (o : Option Join) → slice_get joins i ≡ o → IsSomeAnd o (λ join. ¬ IsJoin t join) → (join : Join) × (slice_get joins i ≡ Some join) × (¬ IsJoin t join)
    by None e h = absurd h
    by (Some join) e h = (join, e, h)

all_joins : (t : TypeTable) (joins : List Join) (i : ℕ) → All (IsJoin t) joins → ¬ IsOtherJoin t joins i
all_joins t joins i all h =
    let o = other_or t joins i h in
    o.2 (subst (IsJoin t) (get_or_from_slice_get joins i o.0 o.0 o.1) (All-get_or (IsJoin t) joins i o.0 (slice_get_within joins i o.0 o.1) all))

not_both : (t : TypeTable) (o : Option Join) → IsSomeAnd o (IsJoin t) → ¬ IsSomeAnd o (λ join. ¬ IsJoin t join)
not_both t None a b = a
not_both t (Some join) a b = b a

module _ (t : TypeTable) (n : ℕ) (joins : List Join) where
  pub no_join : (place : ℕ) → IsOtherJoin t joins place → ((i : ℕ) → i < place → IsSomeAnd (slice_get joins i) (IsJoin t)) → IsFirstJoinFault t n joins (fault.NotAJoin place)
  no_join place other first = record { holds = other; first = none }
    where
      none : (f : StockCheckFault) → ComesSooner f (fault.NotAJoin place) → ¬ HasJoinFault t n joins f
      none (fault.NotAJoin i) (inl l) h = absurd (omega (arith, l))
      none (fault.NotAJoin i) (inr s) h = not_both t (slice_get joins i) (first i s.1) h
      none (fault.NoticesItself o) s h = too_late (fault.NoticesItself o) (fault.NotAJoin place) ⊥ s (omega arith)
      none (fault.NotConnected q) s h = too_late (fault.NotConnected q) (fault.NotAJoin place) ⊥ s (omega arith)
      none fault.OtherType s h = h
      none fault.BadNumber s h = h
      none fault.LeastShape s h = h
      none fault.NotAChoice s h = h
      none fault.NoWitness s h = h
      none fault.NotLasting s h = h
      none fault.MostShape s h = h
      none fault.OutOfMemory s h = h

  module _ (are : All (IsJoin t) joins) where
    pub notice : (operation : ℕ) → n ≡ 2 → NoticesItselfSomewhere t operation → ((o : ℕ) → o < operation → ¬ NoticesItselfSomewhere t o) → IsFirstJoinFault t n joins (fault.NoticesItself operation)
    notice operation two here first = record { holds = (two, here); first = none }
      where
        none : (f : StockCheckFault) → ComesSooner f (fault.NoticesItself operation) → ¬ HasJoinFault t n joins f
        none (fault.NotAJoin i) s h = all_joins t joins i are h
        none (fault.NoticesItself o) (inl l) h = absurd (omega (arith, l))
        none (fault.NoticesItself o) (inr s) h = first o s.1 h.1
        none (fault.NotConnected q) s h = too_late (fault.NotConnected q) (fault.NoticesItself operation) ⊥ s (omega arith)
        none fault.OtherType s h = h
        none fault.BadNumber s h = h
        none fault.LeastShape s h = h
        none fault.NotAChoice s h = h
        none fault.NoWitness s h = h
        none fault.NotLasting s h = h
        none fault.MostShape s h = h
        none fault.OutOfMemory s h = h

    some_notices : (o : ℕ) → NoticesItselfSomewhere t o → SomeNotices t
    some_notices o h = (h.1.0, h.1.1, (o, h.0, h.1.2))

    pub left_open : (state : ℕ) → (n ≡ 2 → ¬ SomeNotices t) → IsLeftOpen t n joins state → ((q : ℕ) → q < state → ConnectFrom t n joins q)
        → IsFirstJoinFault t n joins (fault.NotConnected state)
    left_open state quiet here first = record { holds = here; first = none }
      where
        none : (f : StockCheckFault) → ComesSooner f (fault.NotConnected state) → ¬ HasJoinFault t n joins f
        none (fault.NotAJoin i) s h = all_joins t joins i are h
        none (fault.NoticesItself o) s h = quiet h.0 (some_notices o h.1)
        none (fault.NotConnected q) (inl l) h = absurd (omega (arith, l))
        none (fault.NotConnected q) (inr s) h = h.1 (first q s.1)
        none fault.OtherType s h = h
        none fault.BadNumber s h = h
        none fault.LeastShape s h = h
        none fault.NotAChoice s h = h
        none fault.NoWitness s h = h
        none fault.NotLasting s h = h
        none fault.MostShape s h = h
        none fault.OutOfMemory s h = h

    pub is_evidence : (n ≡ 2 → ¬ SomeNotices t) → ConnectAll t n joins → IsEvidenceAgainst t n joins
    is_evidence quiet connect = record { are_joins = are; connect = connect; none_notices = quiet }

-- ---- the joins for a bound

pub first_of_joins : (t : TypeTable) (m : ℕ) (joins : List Join) (e : StockCheckFault) → IsFirstJoinFault t (m + 1) joins e → IsFirstMostFault t (Some joins) (Some m) e
first_of_joins t m joins e j = record { holds = has e j.holds; first = none }
  where
    has : (f : StockCheckFault) → HasJoinFault t (m + 1) joins f → HasMostFault t (Some joins) (Some m) f
    has (fault.NotAJoin i) h = h
    has (fault.NoticesItself o) h = (let two = h.0 in let one : m ≡ 1 = omega (arith, two) in ap Some one, h.1)
    has (fault.NotConnected q) h = h
    has fault.OtherType h = h
    has fault.BadNumber h = h
    has fault.LeastShape h = h
    has fault.NotAChoice h = h
    has fault.NoWitness h = h
    has fault.NotLasting h = h
    has fault.MostShape h = absurd h
    has fault.OutOfMemory h = h

    none : (f : StockCheckFault) → ComesSooner f e → ¬ HasMostFault t (Some joins) (Some m) f
    none (fault.NotAJoin i) s h = j.first (fault.NotAJoin i) s h
    none (fault.NoticesItself o) s h = j.first (fault.NoticesItself o) s (let one = same_Some m 1 h.0 in omega (arith, one), h.1)
    none (fault.NotConnected q) s h = j.first (fault.NotConnected q) s h
    none fault.OtherType s h = h
    none fault.BadNumber s h = h
    none fault.LeastShape s h = h
    none fault.NotAChoice s h = h
    none fault.NoWitness s h = h
    none fault.NotLasting s h = h
    none fault.MostShape s h = h tt
    none fault.OutOfMemory s h = h

-- faults of joins have greater numbers
most_from : (t : TypeTable) (most : Option (List Join)) (bound : Option ℕ) (f : StockCheckFault) → HasMostFault t most bound f → 7 ≤ stock_check_fault_number f
most_from t most bound (fault.NotAJoin i) h = omega arith
most_from t most bound (fault.NoticesItself o) h = omega arith
most_from t most bound (fault.NotConnected q) h = omega arith
most_from t most bound fault.OtherType h = absurd h
most_from t most bound fault.BadNumber h = absurd h
most_from t most bound fault.LeastShape h = absurd h
most_from t most bound fault.NotAChoice h = absurd h
most_from t most bound fault.NoWitness h = absurd h
most_from t most bound fault.NotLasting h = absurd h
most_from t most bound fault.MostShape h = omega arith
most_from t most bound fault.OutOfMemory h = absurd h

pub first_most_shape : (t : TypeTable) (most : Option (List Join)) (bound : Option ℕ) → ¬ AreThereFor most bound → IsFirstMostFault t most bound fault.MostShape
first_most_shape t most bound n = record {
  holds = n;
  first = λ f s h. (let l = below_it f fault.MostShape s refl in let u = most_from t most bound f h in absurd (omega (arith, l, u)));
}

-- ---- the claim of a lower bound

least_range : (t : TypeTable) (claim : StockClaim) (bound : Option ℕ) (f : StockCheckFault) → HasLeastFault t claim bound f → (3 ≤ stock_check_fault_number f) × (stock_check_fault_number f ≤ 6)
least_range t claim bound fault.LeastShape h = (omega arith, omega arith)
least_range t claim bound fault.NotAChoice h = (omega arith, omega arith)
least_range t claim bound fault.NoWitness h = (omega arith, omega arith)
least_range t claim bound fault.NotLasting h = (omega arith, omega arith)
least_range t claim bound fault.OtherType h = absurd h
least_range t claim bound fault.BadNumber h = absurd h
least_range t claim bound fault.MostShape h = absurd h
least_range t claim bound (fault.NotAJoin i) h = absurd h
least_range t claim bound (fault.NoticesItself o) h = absurd h
least_range t claim bound (fault.NotConnected q) h = absurd h
least_range t claim bound fault.OutOfMemory h = absurd h

pub first_least_shape : (t : TypeTable) (claim : StockClaim) (bound : Option ℕ) → ¬ IsClaimFor claim bound → IsFirstLeastFault t claim bound fault.LeastShape
first_least_shape t claim bound n = record {
  holds = n;
  first = λ f s h. (let l = below_it f fault.LeastShape s refl in let u = (least_range t claim bound f h).0 in absurd (omega (arith, l, u)));
}

pub first_not_lasting : (t : TypeTable) (s : LastingSets) → ¬ AreLastingSets t s → IsFirstLeastFault t (Lasting s) None fault.NotLasting
first_not_lasting t s n = record { holds = n; first = none }
  where
    none : (f : StockCheckFault) → ComesSooner f fault.NotLasting → ¬ HasLeastFault t (Lasting s) None f
    none fault.LeastShape l h = h tt
    none fault.NotAChoice l h = h
    none fault.NoWitness l h = h
    none fault.NotLasting l h = never_itself fault.NotLasting l
    none fault.OtherType l h = h
    none fault.BadNumber l h = h
    none fault.MostShape l h = h
    none (fault.NotAJoin i) l h = h
    none (fault.NoticesItself o) l h = h
    none (fault.NotConnected q) l h = h
    none fault.OutOfMemory l h = h

pub first_of_witness : (t : TypeTable) (n : ℕ) (c : Choice) (e : StockCheckFault) → IsWitnessFault t n c e → IsFirstLeastFault t (Witness c) (Some n) e
first_of_witness t n c e (inl h) = subst (IsFirstLeastFault t (Witness c) (Some n)) (sym h.0) (record { holds = h.1; first = none })
  where
    none : (f : StockCheckFault) → ComesSooner f fault.NotAChoice → ¬ HasLeastFault t (Witness c) (Some n) f
    none fault.LeastShape l h = h tt
    none fault.NotAChoice l h = never_itself fault.NotAChoice l
    none fault.NoWitness l h = too_late fault.NoWitness fault.NotAChoice ⊥ l (omega arith)
    none fault.NotLasting l h = h
    none fault.OtherType l h = h
    none fault.BadNumber l h = h
    none fault.MostShape l h = h
    none (fault.NotAJoin i) l h = h
    none (fault.NoticesItself o) l h = h
    none (fault.NotConnected q) l h = h
    none fault.OutOfMemory l h = h
first_of_witness t n c e (inr w) = subst (IsFirstLeastFault t (Witness c) (Some n)) (sym w.0) (record { holds = w.2; first = none })
  where
    none : (f : StockCheckFault) → ComesSooner f fault.NoWitness → ¬ HasLeastFault t (Witness c) (Some n) f
    none fault.LeastShape l h = h tt
    none fault.NotAChoice l h = h w.1
    none fault.NoWitness l h = never_itself fault.NoWitness l
    none fault.NotLasting l h = h
    none fault.OtherType l h = h
    none fault.BadNumber l h = h
    none fault.MostShape l h = h
    none (fault.NotAJoin i) l h = h
    none (fault.NoticesItself o) l h = h
    none (fault.NotConnected q) l h = h
    none fault.OutOfMemory l h = h

-- ---- what is right has no fault

pub least_right : (t : TypeTable) (claim : StockClaim) (bound : Option ℕ) → ShowsAtLeast t claim bound → (f : StockCheckFault) → ¬ HasLeastFault t claim bound f
least_right t Alone None s f h = s
least_right t Alone (Some n) s fault.LeastShape h = h s
least_right t Alone (Some n) s fault.NotAChoice h = h
least_right t Alone (Some n) s fault.NoWitness h = h
least_right t Alone (Some n) s fault.NotLasting h = h
least_right t (Witness c) None s f h = s
least_right t (Witness c) (Some n) s fault.LeastShape h = h tt
least_right t (Witness c) (Some n) s fault.NotAChoice h = h s.0
least_right t (Witness c) (Some n) s fault.NoWitness h = h s.1
least_right t (Witness c) (Some n) s fault.NotLasting h = h
least_right t (Lasting l) None s fault.LeastShape h = h tt
least_right t (Lasting l) None s fault.NotAChoice h = h
least_right t (Lasting l) None s fault.NoWitness h = h
least_right t (Lasting l) None s fault.NotLasting h = h s
least_right t (Lasting l) (Some n) s f h = s
least_right t claim bound s fault.OtherType h = h
least_right t claim bound s fault.BadNumber h = h
least_right t claim bound s fault.MostShape h = h
least_right t claim bound s (fault.NotAJoin i) h = h
least_right t claim bound s (fault.NoticesItself o) h = h
least_right t claim bound s (fault.NotConnected q) h = h
least_right t claim bound s fault.OutOfMemory h = h

evidence_right : (t : TypeTable) (m : ℕ) (joins : List Join) → IsEvidenceAgainst t (m + 1) joins → (f : StockCheckFault) → ¬ HasMostFault t (Some joins) (Some m) f
evidence_right t m joins e (fault.NotAJoin i) h = all_joins t joins i e.are_joins h
evidence_right t m joins e (fault.NoticesItself o) h = e.none_notices (let one = same_Some m 1 h.0 in omega (arith, one)) (h.1.1.0, h.1.1.1, (o, h.1.0, h.1.1.2))
evidence_right t m joins e (fault.NotConnected q) h = h.1 (λ stock known long none. e.connect q h.0 stock known long none)
evidence_right t m joins e fault.MostShape h = h tt
evidence_right t m joins e fault.OtherType h = h
evidence_right t m joins e fault.BadNumber h = h
evidence_right t m joins e fault.LeastShape h = h
evidence_right t m joins e fault.NotAChoice h = h
evidence_right t m joins e fault.NoWitness h = h
evidence_right t m joins e fault.NotLasting h = h
evidence_right t m joins e fault.OutOfMemory h = h

pub most_right : (t : TypeTable) (most : Option (List Join)) (bound : Option ℕ) → ShowsAtMost t most bound → (f : StockCheckFault) → ¬ HasMostFault t most bound f
most_right t (Some joins) (Some m) s f h = evidence_right t m joins s f h
most_right t None (Some m) s f h = s
most_right t (Some joins) None s f h = s
most_right t None None s (fault.NotAJoin i) h = h
most_right t None None s (fault.NoticesItself o) h = let e = h.0 in absurd (cc e)
most_right t None None s (fault.NotConnected q) h = h
most_right t None None s fault.MostShape h = h tt
most_right t None None s fault.OtherType h = h
most_right t None None s fault.BadNumber h = h
most_right t None None s fault.LeastShape h = h
most_right t None None s fault.NotAChoice h = h
most_right t None None s fault.NoWitness h = h
most_right t None None s fault.NotLasting h = h
most_right t None None s fault.OutOfMemory h = h

-- ---- the whole certificate

module _ (t : TypeTable) (c : StockCertificate) where
  parts : (f : StockCheckFault) → HasFault t c f → c.type_name ≡ t.name → AreInRange c.at_least c.at_most → HasLeastFault t c.least c.at_least f ⊎ HasMostFault t c.most c.at_most f
  parts fault.OtherType h type range = absurd (h type)
  parts fault.BadNumber h type range = absurd (h range)
  parts fault.LeastShape h type range = inl h
  parts fault.NotAChoice h type range = inl h
  parts fault.NoWitness h type range = inl h
  parts fault.NotLasting h type range = inl h
  parts fault.MostShape h type range = inr h
  parts (fault.NotAJoin i) h type range = inr h
  parts (fault.NoticesItself o) h type range = inr h
  parts (fault.NotConnected q) h type range = inr h
  parts fault.OutOfMemory h type range = absurd h

  has_least : (f : StockCheckFault) → HasLeastFault t c.least c.at_least f → HasFault t c f
  has_least fault.OtherType h = absurd h
  has_least fault.BadNumber h = absurd h
  has_least fault.LeastShape h = h
  has_least fault.NotAChoice h = h
  has_least fault.NoWitness h = h
  has_least fault.NotLasting h = h
  has_least fault.MostShape h = absurd h
  has_least (fault.NotAJoin i) h = absurd h
  has_least (fault.NoticesItself o) h = absurd h
  has_least (fault.NotConnected q) h = absurd h
  has_least fault.OutOfMemory h = absurd h

  has_most : (f : StockCheckFault) → HasMostFault t c.most c.at_most f → HasFault t c f
  has_most fault.OtherType h = absurd h
  has_most fault.BadNumber h = absurd h
  has_most fault.LeastShape h = absurd h
  has_most fault.NotAChoice h = absurd h
  has_most fault.NoWitness h = absurd h
  has_most fault.NotLasting h = absurd h
  has_most fault.MostShape h = h
  has_most (fault.NotAJoin i) h = h
  has_most (fault.NoticesItself o) h = h
  has_most (fault.NotConnected q) h = h
  has_most fault.OutOfMemory h = absurd h

  pub wrong : (e : StockCheckFault) → HasFault t c e → ¬ IsRight t c
  wrong e h r = elim (parts e h r.type_name r.in_range) [ inl l ↦ least_right t c.least c.at_least r.least e l | inr m ↦ most_right t c.most c.at_most r.most e m ]

  some_number : (f : StockCheckFault) → 1 ≤ stock_check_fault_number f
  some_number fault.OtherType = omega arith
  some_number fault.BadNumber = omega arith
  some_number fault.LeastShape = omega arith
  some_number fault.NotAChoice = omega arith
  some_number fault.NoWitness = omega arith
  some_number fault.NotLasting = omega arith
  some_number fault.MostShape = omega arith
  some_number (fault.NotAJoin i) = omega arith
  some_number (fault.NoticesItself o) = omega arith
  some_number (fault.NotConnected q) = omega arith
  some_number fault.OutOfMemory = omega arith

  pub first_type : c.type_name ≢ t.name → IsFirstFault t c fault.OtherType
  first_type n = record { holds = n; first = λ f s h. (let l = below_it f fault.OtherType s refl in let u = some_number f in absurd (omega (arith, l, u))) }

  module _ (type : c.type_name ≡ t.name) where
    pub first_range : ¬ AreInRange c.at_least c.at_most → IsFirstFault t c fault.BadNumber
    first_range n = record { holds = n; first = none }
      where
        none : (f : StockCheckFault) → ComesSooner f fault.BadNumber → ¬ HasFault t c f
        none fault.OtherType s h = h type
        none fault.BadNumber s h = never_itself fault.BadNumber s
        none fault.LeastShape s h = too_late fault.LeastShape fault.BadNumber ⊥ s (omega arith)
        none fault.NotAChoice s h = too_late fault.NotAChoice fault.BadNumber ⊥ s (omega arith)
        none fault.NoWitness s h = too_late fault.NoWitness fault.BadNumber ⊥ s (omega arith)
        none fault.NotLasting s h = too_late fault.NotLasting fault.BadNumber ⊥ s (omega arith)
        none fault.MostShape s h = too_late fault.MostShape fault.BadNumber ⊥ s (omega arith)
        none (fault.NotAJoin i) s h = too_late (fault.NotAJoin i) fault.BadNumber ⊥ s (omega arith)
        none (fault.NoticesItself o) s h = too_late (fault.NoticesItself o) fault.BadNumber ⊥ s (omega arith)
        none (fault.NotConnected q) s h = too_late (fault.NotConnected q) fault.BadNumber ⊥ s (omega arith)
        none fault.OutOfMemory s h = h

    module _ (range : AreInRange c.at_least c.at_most) where
      pub first_of_least : (e : StockCheckFault) → IsFirstLeastFault t c.least c.at_least e → IsFirstFault t c e
      first_of_least e l = record {
        holds = has_least e l.holds;
        first = λ f s h. elim (parts f h type range) [
          | inl a ↦ l.first f s a
          | inr b ↦ (
              let u = (least_range t c.least c.at_least e l.holds).1 in
              let m = most_from t c.most c.at_most f b in
              let o = at_most f e s in
              absurd (omega (arith, u, m, o))
              )
        ];
      }

      pub first_of_most : ShowsAtLeast t c.least c.at_least → (e : StockCheckFault) → IsFirstMostFault t c.most c.at_most e → IsFirstFault t c e
      first_of_most shows e m = record {
        holds = has_most e m.holds;
        first = λ f s h. elim (parts f h type range) [
          | inl a ↦ least_right t c.least c.at_least shows f a
          | inr b ↦ m.first f s b
        ];
      }
