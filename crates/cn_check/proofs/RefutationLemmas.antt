-- How far the choices have been gone through.
use Rattle.std.proofs.Common.{◌≡◌, ℕ, zero, suc, ◌+◌, ◌<◌, ◌≤◌, inl, inr, List, [], ◌∷◌, ◌++◌, length, length-append, map, drop, append-nil, append_assoc, refl, sym, ap, ◌∙◌, subst, arith, All, Bool, true, false, cond, not, ◌&&◌, ◌||◌, ◌==◌, ◌↔◌, Option, Some, None, Contains}
use Rattle.std.specs.Prelude.{slice_get, IsSomeAnd}
use Rattle.std.specs.List.{AllByRecursion, AllZip, filter, flat_map, range_with_len}
use Rattle.std.proofs.lemmas.Bool.{and_right, cases_order}
use Rattle.std.proofs.lemmas.List.Elements.{filter-append, recursion_from_All}
use Rattle.std.proofs.lemmas.List.Folds.{list_all-append}
use Rattle.std.proofs.lemmas.Option.{get_or_from_slice_get, none-some, same_Some, slice_get_past, slice_get_within}
use Rattle.cn_table.specs.TypeTable.{TypeTable, transition}
use Rattle.cn_choice.specs.Canonical.{Choice, FitsTable, IsCanonical, canonical_choices, raw_choice_of, with_state}
use Rattle.cn_choice.specs.Collisions.{Collision}
use Rattle.cn_choice.specs.Live.{IsLive, all_move, live_choices}
use Rattle.cn_choice.specs.RawChoices.{IsRawChoice}
use Rattle.cn_check.specs.Conditions.{HoldsCollision, Refutes}
use Rattle.cn_check.specs.Refutations.{AreRefuted, ComeNext, HasComeTo, IsOfChoice, all_count, counting}
use Rattle.cn_check.specs.Versions.{choices_in_version}

-- ---- what comes next in a list

pub first_at : {X : Type 0} (xs : List X) (place : ℕ) (x : X) (rest : List X) → drop place xs ≡ x ∷ rest → slice_get xs place ≡ Some x
first_at [] zero x rest e = absurd (cc e)
first_at [] (suc place) x rest e = absurd (cc e)
first_at (y ∷ xs) zero x rest e = cc
first_at (y ∷ xs) (suc place) x rest e = first_at xs place x rest e

rest_after : {X : Type 0} (xs : List X) (place : ℕ) (x : X) (rest : List X) → drop place xs ≡ x ∷ rest → drop (suc place) xs ≡ rest
rest_after [] zero x rest e = absurd (cc e)
rest_after [] (suc place) x rest e = absurd (cc e)
rest_after (y ∷ xs) zero x rest e = cc
rest_after (y ∷ xs) (suc place) x rest e = rest_after xs place x rest e

pub rest_at : {X : Type 0} (xs : List X) (place : ℕ) (x : X) (rest : List X) → drop place xs ≡ x ∷ rest → drop (place + 1) xs ≡ rest
rest_at xs place x rest e = let next : suc place ≡ place + 1 = omega arith in subst (λ (k : ℕ). drop k xs ≡ rest) next (rest_after xs place x rest e)

none_at : {X : Type 0} (xs : List X) (place : ℕ) → drop place xs ≡ [] → length xs ≤ place
none_at [] place e = omega arith
none_at (x ∷ xs) zero e = absurd (cc e)
none_at (x ∷ xs) (suc place) e = omega (arith, none_at xs place e)

module _ (choices : List Choice) (start : ℕ) (all : List Choice) where
  pub come_first : (left : List Choice) → all ≡ left → HasComeTo choices start all start left
  come_first left same later e = e ∙ ap (λ (cs : List Choice). cs ++ later) same

  pub come_as : (place : ℕ) (left other : List Choice) → left ≡ other → HasComeTo choices start all place left → HasComeTo choices start all place other
  come_as place left other same come later e = come later e ∙ ap (λ (cs : List Choice). cs ++ later) same

  -- those of the next part come next, and when they are past the others are left
  module _ (place : ℕ) (now left : List Choice) (come : HasComeTo choices start all place (now ++ left)) where
    pub come_next : ComeNext choices start all → ComeNext choices place now
    come_next h = (left ++ h.0, come h.0 h.1 ∙ append_assoc now left h.0)

    pub come_past : (end : ℕ) → HasComeTo choices place now end [] → HasComeTo choices start all end left
    come_past end past later e = past (left ++ later) (come later e ∙ append_assoc now left later)

  module _ (place : ℕ) (now : Choice) (left : List Choice) (come : HasComeTo choices start all place (now ∷ left)) where
    pub choice_next : ComeNext choices start all → slice_get choices place ≡ Some now
    choice_next h = first_at choices place now (left ++ h.0) (come h.0 h.1)

    pub choice_past : HasComeTo choices start all (place + 1) left
    choice_past later e = rest_at choices place now (left ++ later) (come later e)

-- ---- the choices that count

-- in each version the choices that count are those of the canonical ones that do
pub counting_is : (version : ℕ) (t : TypeTable) (n : ℕ) → choices_in_version version t n ≡ counting version t (canonical_choices (length t.states) (length t.operations) n)
unfolding live_choices
counting_is version t n = by_version (version == 1) refl
  where
    all : (choices : List Choice) → choices ≡ filter (λ c. (true || all_move t c.state c.a) && (true || all_move t c.state c.b)) choices
    all [] = refl
    all (c ∷ choices) = ap (λ (cs : List Choice). c ∷ cs) (all choices)

    by_version : (one : Bool) → (version == 1) ≡ one → choices_in_version version t n ≡ counting version t (canonical_choices (length t.states) (length t.operations) n)
    by_version true e = rw e (all (canonical_choices (length t.states) (length t.operations) n))
    by_version false e = rw e refl

module _ (version : ℕ) (t : TypeTable) (state : ℕ) (a : List ℕ) where
  abbrev pub beside : List (List ℕ) → List Choice
  beside bs = map (λ b. record { state = state; a = a; b = b }) bs

  pub one_counts : (b : List ℕ) (bs : List (List ℕ)) → all_count version t state a ≡ true → all_count version t state b ≡ true
      → counting version t (beside (b ∷ bs)) ≡ record { state = state; a = a; b = b } ∷ counting version t (beside bs)
  one_counts b bs e f = rw (e, f) refl

  pub one_does_not : (b : List ℕ) (bs : List (List ℕ)) → all_count version t state b ≡ false → counting version t (beside (b ∷ bs)) ≡ counting version t (beside bs)
  one_does_not b bs f = rw (f, and_right (all_count version t state a) false refl) refl

  pub none_counts : (bs : List (List ℕ)) → all_count version t state a ≡ false → counting version t (beside bs) ≡ []
  none_counts [] e = refl
  none_counts (b ∷ bs) e = rw e (none_counts bs e)

-- where each operation of the table counts, each list of them does
pub each_counts : (version : ℕ) (t : TypeTable) (state : ℕ) → ((o : ℕ) → o < length t.operations → all_count version t state (o ∷ []) ≡ true) → (os : List ℕ)
    → All (λ o. o < length t.operations) os → all_count version t state os ≡ true
each_counts version t state each os known = by_version (version == 1) refl
  where
    moving : (version == 1) ≡ false → (os : List ℕ) → AllByRecursion (λ o. o < length t.operations) os → all_move t state os ≡ true
    moving e [] h = refl
    moving e (o ∷ os) h =
        let one = rw e at each o h.0 in
        list_all-append (λ operation. not ((transition t operation state).1 == state)) (o ∷ []) os ∙ rw (one, moving e os h.1) refl

    by_version : (one : Bool) → (version == 1) ≡ one → all_count version t state os ≡ true
    by_version true e = rw e refl
    by_version false e = rw e (moving e os (recursion_from_All (λ o. o < length t.operations) os known))

-- ---- one part of the choices after the other

module _ {X : Type 0} (choices : List Choice) (start : ℕ) (all : List Choice) (version : ℕ) (t : TypeTable) (f : X → List Choice) (place : ℕ) (x : X) (xs : List X)
    (come : HasComeTo choices start all place (counting version t (flat_map f (x ∷ xs)))) where
  in_parts : HasComeTo choices start all place (counting version t (f x) ++ counting version t (flat_map f xs))
  in_parts = come_as choices start all place _ _ (filter-append (λ c. all_count version t c.state c.a && all_count version t c.state c.b) (f x) (flat_map f xs)) come

  pub part_next : ComeNext choices start all → ComeNext choices place (counting version t (f x))
  part_next next = come_next choices start all place _ _ in_parts next

  pub part_past : (end : ℕ) → HasComeTo choices place (counting version t (f x)) end [] → HasComeTo choices start all end (counting version t (flat_map f xs))
  part_past end past = come_past choices start all place _ _ in_parts end past

  pub part_over : counting version t (f x) ≡ [] → HasComeTo choices start all place (counting version t (flat_map f xs))
  part_over none = come_as choices start all place _ _ (ap (λ (cs : List Choice). cs ++ counting version t (flat_map f xs)) none) in_parts

-- ---- a choice that is listed

pub listed_fits : ((t : TypeTable) (n : ℕ) (c : Choice) → Contains (canonical_choices (length t.states) (length t.operations) n) c ↔ (IsCanonical c × IsRawChoice t n (raw_choice_of c)))
    → ((t : TypeTable) (n : ℕ) (c : Choice) → Contains (live_choices t n) c ↔ (IsCanonical c × IsRawChoice t n (raw_choice_of c) × IsLive t (raw_choice_of c)))
    → (version : ℕ) (t : TypeTable) (n place : ℕ) (c : Choice) → 2 ≤ n → n ≤ 8 → slice_get (choices_in_version version t n) place ≡ Some c → FitsTable t c
listed_fits canonical live version t n place c some few e =
    let is = fits (version == 1) (place, slice_get_within (choices_in_version version t n) place c e, get_or_from_slice_get (choices_in_version version t n) place c c e) in
    let all : length c.a + length c.b ≡ n = sym (length-append c.a c.b) ∙ is.one_operation_each in
    record { fits = subst (λ (k : ℕ). IsRawChoice t k (raw_choice_of c)) (sym all) is; some = omega (arith, all); few = omega (arith, all) }
  where
    fits : (one : Bool) → Contains (cond one (canonical_choices (length t.states) (length t.operations) n) (live_choices t n)) c → IsRawChoice t n (raw_choice_of c)
    fits true h = ((canonical t n c).0 h).1
    fits false h = ((live t n c).0 h).1

-- ---- one list of team B after the other

module _ (choices : List Choice) (start : ℕ) (all : List Choice) (version : ℕ) (t : TypeTable) (state : ℕ) (a : List ℕ) (place : ℕ) (b : List ℕ) (bs : List (List ℕ))
    (come : HasComeTo choices start all place (counting version t (beside version t state a (b ∷ bs)))) where
  here : all_count version t state a ≡ true → all_count version t state b ≡ true
      → HasComeTo choices start all place (record { state = state; a = a; b = b } ∷ counting version t (beside version t state a bs))
  here e f = come_as choices start all place _ _ (one_counts version t state a b bs e f) come

  pub team_next : ComeNext choices start all → all_count version t state a ≡ true → all_count version t state b ≡ true → slice_get choices place ≡ Some (record { state = state; a = a; b = b })
  team_next next e f = choice_next choices start all place _ _ (here e f) next

  pub team_past : all_count version t state a ≡ true → all_count version t state b ≡ true → HasComeTo choices start all (place + 1) (counting version t (beside version t state a bs))
  team_past e f = choice_past choices start all place _ _ (here e f)

  pub team_over : all_count version t state b ≡ false → HasComeTo choices start all place (counting version t (beside version t state a bs))
  team_over f = come_as choices start all place _ _ (one_does_not version t state a b bs f) come

-- ---- the first choice, and the last

pub all_counting : (version : ℕ) (t : TypeTable) (n : ℕ) → choices_in_version version t n ≡ counting version t (flat_map (with_state (length t.operations) n) (range_with_len 0 (length t.states)))
unfolding canonical_choices
all_counting version t n = counting_is version t n

not_past : (t : TypeTable) (choices : List Choice) (entries : List Collision)
    → ¬ IsSomeAnd (slice_get entries (length choices)) (λ entry. IsOfChoice choices (length choices) entry × HoldsCollision t entry)
not_past t choices entries h = by_entry (slice_get entries (length choices)) h
  where
    by_entry : (o : Option Collision) → ¬ IsSomeAnd o (λ entry. IsOfChoice choices (length choices) entry × HoldsCollision t entry)
    by_entry None h = h
    by_entry (Some e) h = none-some e.choice (sym (slice_get_past choices (length choices) (omega arith)) ∙ h.0)

-- where all have been gone through, as many are refuted as there are
pub come_to_end : (t : TypeTable) (choices : List Choice) (entries : List Collision) (place : ℕ) → HasComeTo choices 0 choices place [] → AreRefuted t choices entries place → place ≡ length choices
come_to_end t choices entries place come refuted =
    let gone : length choices ≤ place = none_at choices place (come [] (sym (append-nil choices))) in
    elim (cases_order place (length choices)) [
      | inl same ↦ same
      | inr apart ↦ elim apart [ inl less ↦ absurd (omega (arith, gone)) | inr more ↦ absurd (not_past t choices entries (refuted (length choices) more)) ]
    ]

-- where each choice is refuted in its place, and there is no further entry, they refute the choices one by one
pub all_refuted : (t : TypeTable) (choices : List Choice) (entries : List Collision) → AreRefuted t choices entries (length choices) → length entries ≤ length choices
    → AllZip (Refutes t) choices entries
all_refuted t [] [] h l = tt
all_refuted t [] (e ∷ entries) h l = absurd (omega (arith, l))
all_refuted t (c ∷ choices) [] h l = absurd (h 0 (omega arith))
all_refuted t (c ∷ choices) (e ∷ entries) h l =
    let here = h 0 (omega arith) in
    ((sym (same_Some c e.choice here.0), here.1), all_refuted t choices entries (λ i m. h (suc i) (omega arith)) (omega (arith, l)))
