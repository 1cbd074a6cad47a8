-- Signs of a table: a sticky bit whose writes answer nothing, and a silent operation that answers it.
use Rattle.std.proofs.Common.{◌≡◌, ◌≢◌, ℕ, zero, suc, ◌<◌, ◌⊎◌, inl, inr, [], ◌∷◌, refl}
use Rattle.std.proofs.Common.{arith, Bool, slice_index, true, false}
use Rattle.cn_table.specs.TypeTable.{IsClosed, TypeTable, transition}
use Rattle.cn_choice.specs.declared.team.Team.TheVariants.{A}
use Rattle.cn_unread.specs.Certificates.{AreSignSets, IsClosedSet, SignSets}
use Rattle.cn_unread.specs.Signs.{AreSigns, Signs, left_by, shows}
use Rattle.cn_unread.proofs.Certified.{sets_signs}

abbrev sticky : TypeTable
sticky = record {
  name = [];
  states = [] ∷ [] ∷ [] ∷ [];
  responses = [] ∷ [] ∷ [];
  operations =
      record { name = []; response = 0 ∷ 0 ∷ 0 ∷ []; next = 1 ∷ 1 ∷ 2 ∷ [] }
      ∷ record { name = []; response = 0 ∷ 0 ∷ 0 ∷ []; next = 2 ∷ 1 ∷ 2 ∷ [] }
      ∷ record { name = []; response = 0 ∷ 1 ∷ 0 ∷ []; next = 0 ∷ 1 ∷ 2 ∷ [] } ∷ [];
}

abbrev one : ℕ → Bool
one zero = false
one (suc zero) = true
one (suc (suc s)) = false

abbrev two : ℕ → Bool
two zero = false
two (suc zero) = false
two (suc (suc zero)) = true
two (suc (suc (suc s))) = false

abbrev signs : Signs
signs = record {
  state = 0;
  single = 0;
  many = 1;
  further = 2 ∷ [];
  side = A;
  sign = λ o r. one r;
  rank = λ s. 0;
  height = 0;
}

abbrev sets : SignSets
sets = record { single_first = λ s. one s; many_first = λ s. two s; single_later = λ s. two s }

wrong : {X : Type 0} → false ≡ true → X
wrong e = absurd (cc e)

past : {X : Type 0} (i : ℕ) → suc i < 1 → X
past i l = absurd (omega (arith, l))

one_closed : IsClosedSet sticky signs (λ s. one s)
one_closed zero e = wrong e
one_closed (suc zero) e = (refl, by_place)
  where
    by_place : (i : ℕ) → i < 1 → one (left_by sticky signs i 1) ≡ true
    by_place zero l = refl
    by_place (suc i) l = past i l
one_closed (suc (suc s)) e = wrong e

two_closed : IsClosedSet sticky signs (λ s. two s)
two_closed zero e = wrong e
two_closed (suc zero) e = wrong e
two_closed (suc (suc zero)) e = (refl, by_place)
  where
    by_place : (i : ℕ) → i < 1 → two (left_by sticky signs i 2) ≡ true
    by_place zero l = refl
    by_place (suc i) l = past i l
two_closed (suc (suc (suc s))) e = wrong e

sign_sets : AreSignSets sticky signs sets
sign_sets = record {
  state_known = omega arith;
  single_known = omega arith;
  many_known = omega arith;
  further_known = known;
  some = omega arith;
  begins_single = refl;
  begins_many = refl;
  goes_on = later;
  single_closed = one_closed;
  many_closed = two_closed;
  later_closed = two_closed;
  of_team = quiet;
  falls = falls;
  low = λ s h. omega arith;
  seen = seen;
}
  where
    known : (i : ℕ) → i < 1 → slice_index (2 ∷ []) i < 3
    known zero l = omega arith
    known (suc i) l = past i l

    later : (s : ℕ) → two s ≡ true → two (transition sticky 0 s).1 ≡ true
    later zero e = wrong e
    later (suc zero) e = wrong e
    later (suc (suc zero)) e = refl
    later (suc (suc (suc s))) e = wrong e

    quiet_two : (s i : ℕ) → two s ≡ true → i < 1 → shows sticky signs i s ≡ false
    quiet_two zero i e l = wrong e
    quiet_two (suc zero) i e l = wrong e
    quiet_two (suc (suc zero)) zero e l = refl
    quiet_two (suc (suc zero)) (suc i) e l = past i l
    quiet_two (suc (suc (suc s))) i e l = wrong e

    quiet : (s i : ℕ) → (two s ≡ true) ⊎ (two s ≡ true) → i < 1 → shows sticky signs i s ≡ false
    quiet s i (inl e) l = quiet_two s i e l
    quiet s i (inr e) l = quiet_two s i e l

    falls : (s i : ℕ) → one s ≡ true → i < 1 → shows sticky signs i s ≡ false
        → left_by sticky signs i s ≢ s → 0 < 0
    falls zero i e l f n = wrong e
    falls (suc zero) zero e l f n = absurd (n refl)
    falls (suc zero) (suc i) e l f n = past i l
    falls (suc (suc s)) i e l f n = wrong e

    seen : (s : ℕ) → one s ≡ true
        → (i : ℕ) × (i < 1) × ((shows sticky signs i s ≡ true) ⊎ (left_by sticky signs i s ≢ s))
    seen zero e = wrong e
    seen (suc zero) e = (0, omega arith, inl refl)
    seen (suc (suc s)) e = wrong e

is_closed : IsClosed sticky
is_closed o s lo ls = by_operation o s lo ls
  where
    far : {X : Type 0} (i : ℕ) → suc (suc (suc i)) < 3 → X
    far i l = absurd (omega (arith, l))

    by_operation : (o s : ℕ) → o < 3 → s < 3 → (transition sticky o s).1 < 3
    by_operation zero zero lo ls = omega arith
    by_operation zero (suc zero) lo ls = omega arith
    by_operation zero (suc (suc zero)) lo ls = omega arith
    by_operation zero (suc (suc (suc s))) lo ls = far s ls
    by_operation (suc zero) zero lo ls = omega arith
    by_operation (suc zero) (suc zero) lo ls = omega arith
    by_operation (suc zero) (suc (suc zero)) lo ls = omega arith
    by_operation (suc zero) (suc (suc (suc s))) lo ls = far s ls
    by_operation (suc (suc zero)) zero lo ls = omega arith
    by_operation (suc (suc zero)) (suc zero) lo ls = omega arith
    by_operation (suc (suc zero)) (suc (suc zero)) lo ls = omega arith
    by_operation (suc (suc zero)) (suc (suc (suc s))) lo ls = far s ls
    by_operation (suc (suc (suc o))) s lo ls = far o lo

pub some_signs : (t : TypeTable) × (w : Signs) × IsClosed t × AreSigns t w
some_signs = (sticky, signs, is_closed, sets_signs sticky signs sets sign_sets)
