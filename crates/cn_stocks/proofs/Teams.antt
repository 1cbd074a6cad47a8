-- Teams of processes are teams of operations, where processes with one operation are in one team.
use Rattle.std.proofs.Common.{◌≡◌, ℕ, zero, suc, ◌<◌, ◌≤◌, ◌⊎◌, inl, inr, List, [], ◌∷◌, length, map, get_or, refl, sym, ap, ◌∙◌, subst, arith, Some, Bool, true, false, cond, nat_eq, true≢false, Contains}
use Rattle.std.specs.Prelude.{slice_index, slice_get}
use Rattle.std.proofs.Math.ListN.{get_or-map}
use Rattle.std.proofs.lemmas.Bool.{eqb-true, eq-eqb}
use Rattle.std.proofs.lemmas.List.{length-map, get_or_default}
use Rattle.std.proofs.lemmas.Option.{get_or_from_slice_get, slice_get-get_or, slice_get_within, same_Some}
use Rattle.cn_table.specs.TypeTable.{TypeTable}
use Rattle.cn_choice.specs.declared.team.Team.{Team}
use Rattle.cn_choice.specs.declared.team.Team.TheVariants.{A, B}
use Rattle.cn_choice.specs.RawChoices.{IsRawChoice, RawChoice}
use Rattle.cn_stocks.specs.Words.{IsKnown, times}
use Rattle.cn_stocks.proofs.Times.{place_in, times_of_place}

-- ---- the operations of team A

abbrev is_a : Team → Bool
is_a A = true
is_a B = false

-- a process with the operation is in team A
abbrev pub in_a : List ℕ → List Team → ℕ → Bool
in_a [] marks f = false
in_a (o ∷ os) [] f = false
in_a (o ∷ os) (m ∷ marks) f = cond (nat_eq o f) (cond (is_a m) true (in_a os marks f)) (in_a os marks f)

in_a_true : (os : List ℕ) (marks : List Team) (f : ℕ) → in_a os marks f ≡ true → (p : ℕ) × (slice_get os p ≡ Some f) × (slice_get marks p ≡ Some A)
in_a_true [] marks f e = absurd (true≢false (sym e))
in_a_true (o ∷ os) [] f e = absurd (true≢false (sym e))
in_a_true (o ∷ os) (m ∷ marks) f e = by_test (nat_eq o f) m refl refl e (λ h. let r = in_a_true os marks f h in (suc r.0, r.1, r.2))
  where
    by_test : (b : Bool) (team : Team) → nat_eq o f ≡ b → m ≡ team → cond b (cond (is_a team) true (in_a os marks f)) (in_a os marks f) ≡ true
        → (in_a os marks f ≡ true → (p : ℕ) × (slice_get (o ∷ os) p ≡ Some f) × (slice_get (m ∷ marks) p ≡ Some A)) → (p : ℕ) × (slice_get (o ∷ os) p ≡ Some f) × (slice_get (m ∷ marks) p ≡ Some A)
    by_test true A t is e later = (0, ap Some (eqb-true o f t), ap Some is)
    by_test true B t is e later = later e
    by_test false team t is e later = later e

in_a_is : (os : List ℕ) (marks : List Team) (f p : ℕ) → slice_get os p ≡ Some f → slice_get marks p ≡ Some A → in_a os marks f ≡ true
in_a_is [] marks f p a b = absurd (cc a)
in_a_is (o ∷ os) [] f p a b = absurd (cc b)
in_a_is (o ∷ os) (m ∷ marks) f zero a b = rw (eq-eqb o f (same_Some o f a), same_Some m A b) refl
in_a_is (o ∷ os) (m ∷ marks) f (suc p) a b = by_test (nat_eq o f) (is_a m) (in_a_is os marks f p a b)
  where
    by_test : (x y : Bool) → in_a os marks f ≡ true → cond x (cond y true (in_a os marks f)) (in_a os marks f) ≡ true
    by_test true true e = refl
    by_test true false e = e
    by_test false y e = e

other_team : (o : _) (mark : Team) → o ≡ Some mark → (o ≡ Some A) ⊎ (o ≡ Some B)
other_team o A e = inl e
other_team o B e = inr e

module _ (t : TypeTable) (n : ℕ) (c : RawChoice) (is : IsRawChoice t n c)
    (twins : (p q : ℕ) → p < n → q < n → slice_index c.operations p ≡ slice_index c.operations q → slice_get c.marks p ≡ Some A → slice_get c.marks q ≡ Some B → ⊥) where
  mark_at : (p : ℕ) → p < n → (mark : Team) × (slice_get c.marks p ≡ Some mark)
  mark_at p l = (get_or c.marks p A, slice_get-get_or c.marks p A (omega (arith, l, is.one_team_each)))

  pub team_a : (f p : ℕ) → in_a c.operations c.marks f ≡ true → p < n → slice_index c.operations p ≡ f → slice_get c.marks p ≡ Some A
  team_a f p e l is_f =
      let mark = mark_at p l in
      elim (other_team (slice_get c.marks p) mark.0 mark.1) [
        | inl a ↦ a
        | inr b ↦ (
            let r = in_a_true c.operations c.marks f e in
            let inside = slice_get_within c.operations r.0 f r.1 in
            absurd (twins r.0 p (omega (arith, inside, is.one_operation_each)) l (get_or_from_slice_get c.operations r.0 f 0 r.1 ∙ sym is_f) r.2 b)
            )
      ]

  operation_at : (p : ℕ) → p < n → slice_get c.operations p ≡ Some (slice_index c.operations p)
  operation_at p l = slice_get-get_or c.operations p 0 (omega (arith, l, is.one_operation_each))

  pub team_b : (g p : ℕ) → in_a c.operations c.marks g ≡ false → p < n → slice_index c.operations p ≡ g → slice_get c.marks p ≡ Some B
  team_b g p e l is_g =
      let mark = mark_at p l in
      elim (other_team (slice_get c.marks p) mark.0 mark.1) [
        | inl a ↦ absurd (true≢false (sym (in_a_is c.operations c.marks g p (operation_at p l ∙ ap Some is_g) a) ∙ e))
        | inr b ↦ b
      ]

  marked_at : (team : Team) → Contains c.marks team → (p : ℕ) × (p < n) × (slice_get c.marks p ≡ Some team)
  marked_at team h = (h.0, omega (arith, h.1, is.one_team_each), slice_get-get_or c.marks h.0 team h.1 ∙ ap Some h.2)

  operation_in : (p : ℕ) → p < n → 1 ≤ times (slice_index c.operations p) c.operations
  operation_in p l = times_of_place c.operations p (omega (arith, l, is.one_operation_each))

  pub some_in_a : (f : ℕ) × (1 ≤ times f c.operations) × (in_a c.operations c.marks f ≡ true)
  some_in_a =
      let p = marked_at A is.someone_in_a in
      (slice_index c.operations p.0, operation_in p.0 p.1, in_a_is c.operations c.marks (slice_index c.operations p.0) p.0 (operation_at p.0 p.1) p.2)

  pub some_in_b : (g : ℕ) × (1 ≤ times g c.operations) × (in_a c.operations c.marks g ≡ false)
  some_in_b =
      let p = marked_at B is.someone_in_b in
      (slice_index c.operations p.0, operation_in p.0 p.1, not_a p.0 p.1 p.2 (in_a c.operations c.marks (slice_index c.operations p.0)) refl)
    where
      not_a : (p : ℕ) → p < n → slice_get c.marks p ≡ Some B → (b : Bool) → in_a c.operations c.marks (slice_index c.operations p) ≡ b → b ≡ false
      not_a p l m false e = refl
      not_a p l m true e =
          let r = in_a_true c.operations c.marks (slice_index c.operations p) e in
          let inside = slice_get_within c.operations r.0 (slice_index c.operations p) r.1 in
          absurd (twins r.0 p (omega (arith, inside, is.one_operation_each)) l (get_or_from_slice_get c.operations r.0 (slice_index c.operations p) 0 r.1) r.2 m)

pub operations_known : (t : TypeTable) (n : ℕ) (c : RawChoice) → IsRawChoice t n c → IsKnown (length t.operations) c.operations
operations_known t n c is o l = let r = place_in o c.operations l in subst (λ (x : ℕ). x < length t.operations) r.2 (is.operations_known r.0 0 r.1)

-- ---- the teams of a part of the operations

abbrev pub team_of : Bool → Team
team_of true = A
team_of false = B

pub chosen_a : (b : Bool) → team_of b ≡ A → b ≡ true
chosen_a true e = refl
chosen_a false e = absurd (cc e)

pub chosen_b : (b : Bool) → team_of b ≡ B → b ≡ false
chosen_b true e = absurd (cc e)
chosen_b false e = refl

pub team_at : (f : ℕ → Team) (xs : List ℕ) (p : ℕ) (team : Team) → slice_get (map f xs) p ≡ Some team → f (slice_index xs p) ≡ team
team_at f [] p team e = absurd (cc e)
team_at f (x ∷ xs) zero team e = same_Some (f x) team e
team_at f (x ∷ xs) (suc p) team e = team_at f xs p team e

module _ (start : ℕ) (stock : List ℕ) (chosen : ℕ → Bool) where
  abbrev pub choice_of : RawChoice
  choice_of = record { state = start; operations = stock; marks = map (λ (o : ℕ). team_of (chosen o)) stock }

  mark_of : (team : Team) (f : ℕ) → 1 ≤ times f stock → team_of (chosen f) ≡ team → Contains (map (λ (o : ℕ). team_of (chosen o)) stock) team
  mark_of team f l e =
      let p = place_in f stock l in
      let f_at : get_or (map (λ (o : ℕ). team_of (chosen o)) stock) p.0 (team_of (chosen 0)) ≡ team = get_or-map (λ (o : ℕ). team_of (chosen o)) stock p.0 0
      ∙ ap (λ (o : ℕ). team_of (chosen o)) p.2 ∙ e in
      let inside : p.0 < length (map (λ (o : ℕ). team_of (chosen o)) stock) = omega (arith, p.1, length-map stock (λ (o : ℕ). team_of (chosen o))) in
      (p.0, inside, get_or_default (map (λ (o : ℕ). team_of (chosen o)) stock) p.0 team (team_of (chosen 0)) inside ∙ f_at)

  pub is_choice : (t : TypeTable) (n : ℕ) → start < length t.states → IsKnown (length t.operations) stock → length stock ≡ n → (f : ℕ) × (1 ≤ times f stock) × (chosen f ≡ true)
      → (g : ℕ) × (1 ≤ times g stock) × (chosen g ≡ false)
      → IsRawChoice t n choice_of
  is_choice t n known_start known long inside outside = record {
    state_known = known_start;
    operations_known = λ k d l. subst (λ (x : ℕ). x < length t.operations) (get_or_default stock k 0 d l) (known (get_or stock k 0) (times_of_place stock k l));
    one_operation_each = long;
    one_team_each = length-map stock (λ (o : ℕ). team_of (chosen o)) ∙ long;
    someone_in_a = mark_of A inside.0 inside.1 (ap team_of inside.2);
    someone_in_b = mark_of B outside.0 outside.1 (ap team_of outside.2);
  }
