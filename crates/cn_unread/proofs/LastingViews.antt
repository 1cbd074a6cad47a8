-- Where responses tell for good whether a single operation was first, there is a choice for any
-- number of processes: one does the single operation, and all others the other one.
use Rattle.std.proofs.Common.{◌≡◌, ◌≢◌, ℕ, zero, suc, ◌<◌, ◌≤◌, ◌⊎◌, inl, inr, List, [], ◌∷◌}
use Rattle.std.proofs.Common.{◌++◌, length, map, replicate, refl, sym, ap, ◌∙◌, subst, arith, Bool}
use Rattle.std.proofs.Common.{true, false, cond, nat_eq, Some, None}
use Rattle.std.specs.Prelude.{slice_get, slice_index}
use Rattle.std.specs.List.{AllByRecursion}
use Rattle.std.proofs.lemmas.Bool.{eqb-true}
use Rattle.std.proofs.lemmas.List.{get_or-replicate, length-replicate}
use Rattle.std.proofs.lemmas.List.Elements.{All-from_recursion, recursion_from_All}
use Rattle.std.proofs.lemmas.Option.{slice_get-get_or}
use Rattle.cn_table.specs.Run.{responses_along, state_after}
use Rattle.cn_table.specs.TypeTable.{TypeTable, transition}
use Rattle.cn_choice.specs.declared.team.Team.TheVariants.{A, B}
use Rattle.cn_choice.specs.OutcomeSets.{BeginsIn, InOutcomeSet, response_of}
use Rattle.cn_choice.specs.RawChoices.{IsRawChoice, RawChoice}
use Rattle.cn_choice.proofs.ListLemmas.Arrangements.{Differ}
use Rattle.cn_choice.proofs.OrderLemmas.AllOrders.{differ_from}
use Rattle.cn_unread.specs.Views.{IsViewDiscerning}
use Rattle.cn_unread.specs.Lasting.{LastsByResponses, ManyBefore}
use Rattle.cn_unread.specs.Lasting.{SingleBefore}
use Rattle.cn_unread.proofs.PairParts.{pair_parts}

module _ (t : TypeTable) (start many single : ℕ) (l : LastsByResponses t start many single)
    (m : ℕ) where
  -- process 0 does the single operation, in team A; the others do the other one
  abbrev chosen : RawChoice
  chosen = record {
    state = start;
    operations = single ∷ replicate (suc m) many;
    marks = A ∷ replicate (suc m) B;
  }

  abbrev n : ℕ
  n = length chosen.operations

  abbrev op : ℕ → ℕ
  op p = slice_index chosen.operations p

  long : length (replicate (suc m) many) ≡ suc m
  long = length-replicate (suc m) many

  op_many : (y : ℕ) → suc y < n → op (suc y) ≡ many
  op_many y u = get_or-replicate (suc m) y many 0 (omega (arith, u, long))

  -- process 0 alone is in team A
  mark_zero : slice_get chosen.marks 0 ≡ Some A
  mark_zero = refl

  mark_many : (y : ℕ) → suc y < n → slice_get chosen.marks (suc y) ≡ Some B
  mark_many y u = slice_get-get_or chosen.marks (suc y) A
      (omega (arith, u, long, length-replicate (suc m) B))
      ∙ ap Some (get_or-replicate (suc m) y B A (omega (arith, u, long)))

  all_known : (k o : ℕ) → o < length t.operations
      → AllByRecursion (λ x. x < length t.operations) (replicate k o)
  all_known zero o u = tt
  all_known (suc k) o u = (u, all_known k o u)

  is_raw : IsRawChoice t (suc (suc m)) chosen
  is_raw = record {
    state_known = l.start_known;
    operations_known = All-from_recursion (λ o. o < length t.operations) chosen.operations
        (l.single_known, all_known (suc m) many l.many_known);
    one_operation_each = ap suc long;
    one_team_each = ap suc (length-replicate (suc m) B);
    someone_in_a = (0, omega arith, refl);
    someone_in_b = (1, omega (arith, length-replicate (suc m) B), refl);
  }

  -- ---- responses along orders

  abbrev reply : ℕ → ℕ → ℕ
  reply o s = (transition t o s).0

  abbrev next : ℕ → ℕ → ℕ
  next o s = (transition t o s).1

  abbrev Gets : ℕ → List ℕ → ℕ → ℕ → Type 0
  Gets j ps s r = response_of j ps (responses_along t s (map op ps)) ≡ Some r

  -- the response to the first process of the order, or to one of the others
  first_or_later : (j p : ℕ) (ps : List ℕ) (s r : ℕ) → Gets j (p ∷ ps) s r
      → ((p ≡ j) × (reply (op p) s ≡ r)) ⊎ Gets j ps (next (op p) s) r
  first_or_later j p ps s r e = by_test (nat_eq p j) refl e
    where
      by_test : (b : Bool) → nat_eq p j ≡ b
          → cond b (Some (reply (op p) s)) (response_of j ps (responses_along t (next (op p) s)
          (map op ps))) ≡ Some r
          → ((p ≡ j) × (reply (op p) s ≡ r)) ⊎ Gets j ps (next (op p) s) r
      by_test true h e = inl (eqb-true p j h, cc e)
      by_test false h e = inr e

  -- each of these does the other operation
  AreMany : List ℕ → Type 0
  AreMany ps = AllByRecursion (λ p. op p ≡ many) ps

  by_many : (j : ℕ) (ps : List ℕ) (s r : ℕ) → AreMany ps → Gets j ps s r
      → (k : ℕ) × (reply many (state_after t s (replicate k many)) ≡ r)
  unfolding AreMany
  by_many j [] s r a e = absurd (cc e)
  by_many j (p ∷ ps) s r a e = elim (first_or_later j p ps s r e) [
    | inl f ↦ (0, ap (λ (o : ℕ). reply o s) (sym a.0) ∙ f.1)
    | inr f ↦ (let k = by_many j ps (next many s) r a.1
        (subst (λ (o : ℕ). Gets j ps (next o s) r) a.0 f) in
        (suc k.0, k.1))
  ]

  -- after process 0 the others are of the many
  others_many : (ps : List ℕ) → AllByRecursion (λ p. p < n) ps
      → AllByRecursion (λ y. 0 ≢ y) ps → AreMany ps
  unfolding AreMany
  others_many [] known apart = tt
  others_many (zero ∷ ps) known apart = absurd (apart.0 refl)
  others_many (suc y ∷ ps) known apart =
      (op_many y known.0, others_many ps known.1 apart.1)

  -- the response to process 0 where some of the many have moved
  zero_later : (ps : List ℕ) (s r : ℕ) → AllByRecursion (λ p. p < n) ps → Gets 0 ps s r
      → (k : ℕ) × (reply single (state_after t s (replicate k many)) ≡ r)
  zero_later [] s r known e = absurd (cc e)
  zero_later (zero ∷ ps) s r known e = (0, cc e)
  zero_later (suc y ∷ ps) s r known e = elim (first_or_later 0 (suc y) ps s r e) [
    | inl f ↦ absurd (omega (arith, f.0))
    | inr f ↦ (let k = zero_later ps (next many s) r known.1
        (subst (λ (o : ℕ). Gets 0 ps (next o s) r) (op_many y known.0) f) in
        (suc k.0, k.1))
  ]

  -- the response to one of the many, where process 0 may be among those before
  many_later : (y : ℕ) (ps : List ℕ) (s r : ℕ) → Differ ps → AllByRecursion (λ p. p < n) ps
      → Gets (suc y) ps s r
      → ((k : ℕ) × (reply many (state_after t s (replicate k many)) ≡ r))
      ⊎ ((i : ℕ) × (k : ℕ)
      × (reply many (state_after t s (replicate i many ++ single ∷ replicate k many)) ≡ r))
  many_later y [] s r apart known e = absurd (cc e)
  many_later y (zero ∷ ps) s r apart known e = elim (first_or_later (suc y) 0 ps s r e) [
    | inl f ↦ absurd (omega (arith, f.0))
    | inr f ↦ (let k = by_many (suc y) ps (next single s) r
        (others_many ps known.1 apart.0) f in
        inr (0, k.0, k.1))
  ]
  many_later y (suc x ∷ ps) s r apart known e =
      elim (first_or_later (suc y) (suc x) ps s r e) [
        | inl f ↦ inl (0, ap (λ (o : ℕ). reply o s) (sym (op_many x known.0)) ∙ f.1)
        | inr f ↦ elim (many_later y ps (next many s) r apart.1 known.1
            (subst (λ (o : ℕ). Gets (suc y) ps (next o s) r) (op_many x known.0) f)) [
              | inl k ↦ inl (suc k.0, k.1)
              | inr k ↦ inr (suc k.0, k.1, k.2)
            ]
      ]

  -- ---- the outcomes of process 0, and of the others

  abbrev FromA : ℕ → ℕ → Type 0
  FromA zero r = reply single start ≡ r
  FromA (suc y) r = SingleBefore t start many single r

  abbrev FromB : ℕ → ℕ → Type 0
  FromB zero r = (k : ℕ) × (reply single (state_after t start (many ∷ replicate k many)) ≡ r)
  FromB (suc y) r = ManyBefore t start many single r

  from_a : (j : ℕ) (order : List ℕ) (r : ℕ) → Differ order → AllByRecursion (λ p. p < n) order
      → BeginsIn chosen A order → Gets j order start r → FromA j r
  from_a j [] r apart known begins e = absurd (cc begins.1)
  from_a j (suc x ∷ ps) r apart known begins e =
      let same : suc x ≡ begins.0 = cc begins.1 in
      absurd (two_teams (sym (mark_many x known.0) ∙ (ap (slice_get chosen.marks) same ∙ begins.2)))
    where
      two_teams : Some B ≡ Some A → ⊥
      two_teams s = absurd (cc s)
  from_a zero (zero ∷ ps) r apart known begins e = cc e
  from_a (suc y) (zero ∷ ps) r apart known begins e = by_many (suc y) ps (next single start) r
      (others_many ps known.1 apart.0) (later (first_or_later (suc y) 0 ps start r e))
    where
      later : ((0 ≡ suc y) × (reply (op 0) start ≡ r)) ⊎ Gets (suc y) ps (next (op 0) start) r
          → Gets (suc y) ps (next (op 0) start) r
      later (inl f) = absurd (omega (arith, f.0))
      later (inr f) = f

  from_b : (j : ℕ) (order : List ℕ) (r : ℕ) → Differ order → AllByRecursion (λ p. p < n) order
      → BeginsIn chosen B order → Gets j order start r → FromB j r
  from_b j [] r apart known begins e = absurd (cc begins.1)
  from_b j (zero ∷ ps) r apart known begins e =
      let same : 0 ≡ begins.0 = cc begins.1 in
      absurd (two_teams (sym mark_zero ∙ (ap (slice_get chosen.marks) same ∙ begins.2)))
    where
      two_teams : Some A ≡ Some B → ⊥
      two_teams s = absurd (cc s)
  from_b zero (suc x ∷ ps) r apart known begins e =
      zero_later ps (next many start) r known.1 (subst (λ (o : ℕ). Gets 0 ps (next o start) r)
      (op_many x known.0) (later (first_or_later 0 (suc x) ps start r e)))
    where
      later : ((suc x ≡ 0) × (reply (op (suc x)) start ≡ r))
          ⊎ Gets 0 ps (next (op (suc x)) start) r → Gets 0 ps (next (op (suc x)) start) r
      later (inl f) = absurd (omega (arith, f.0))
      later (inr f) = f
  from_b (suc y) (suc x ∷ ps) r apart known begins e =
      by_first (first_or_later (suc y) (suc x) ps start r e)
    where
      by_later : ((k : ℕ) × (reply many (state_after t (next many start) (replicate k many)) ≡ r))
          ⊎ ((i : ℕ) × (k : ℕ) × (reply many (state_after t (next many start)
          (replicate i many ++ single ∷ replicate k many)) ≡ r))
          → ManyBefore t start many single r
      by_later (inl k) = inl (suc k.0, k.1)
      by_later (inr k) = inr k

      by_first : ((suc x ≡ suc y) × (reply (op (suc x)) start ≡ r))
          ⊎ Gets (suc y) ps (next (op (suc x)) start) r → ManyBefore t start many single r
      by_first (inl f) = inl (0, ap (λ (o : ℕ). reply o start) (sym (op_many x known.0)) ∙ f.1)
      by_first (inr f) = by_later (many_later y ps (next many start) r apart.1 known.1
          (subst (λ (o : ℕ). Gets (suc y) ps (next o start) r) (op_many x known.0) f))

  clash : (j r : ℕ) → FromA j r → FromB j r → ⊥
  clash zero r a b = l.single_apart b.0 (b.1 ∙ sym a)
  clash (suc y) r a b = l.many_apart r a b

  apart_by_responses : (j r p q : ℕ) → InOutcomeSet t chosen A j (r, p)
      → InOutcomeSet t chosen B j (r, q) → ⊥
  apart_by_responses j r p q (alpha, o, begins, seen) (beta, u, begins_too, seen_too) =
      clash j r
      (from_a j alpha r (differ_from alpha o.distinct)
      (recursion_from_All (λ x. x < n) alpha o.known) begins
      (pair_parts t chosen alpha j (r, p) seen).0)
      (from_b j beta r (differ_from beta u.distinct)
      (recursion_from_All (λ x. x < n) beta u.known) begins_too
      (pair_parts t chosen beta j (r, q) seen_too).0)

  by_responses : IsViewDiscerning t (suc (suc m))
  by_responses = (
    λ o r. None,
    λ o r v e. absurd (cc e),
    chosen,
    is_raw,
    λ j r p q a b e. apart_by_responses j r p q a b,
  )

pub lasting_views : (t : TypeTable) (start many single : ℕ) → LastsByResponses t start many single
    → (n : ℕ) → 2 ≤ n → IsViewDiscerning t n
lasting_views t start many single l zero h = absurd (omega (arith, h))
lasting_views t start many single l (suc zero) h = absurd (omega (arith, h))
lasting_views t start many single l (suc (suc m)) h = by_responses t start many single l m
