-- When the fault that was found is the first one.
use Rattle.std.proofs.Common.{◌≡◌, ℕ, ◌+◌, ◌<◌, ◌⊎◌, inl, inr, List, length, refl, subst, arith, Option, Some, None, IfSome}
use Rattle.std.specs.Prelude.{IsSomeAnd, slice_get}
use Rattle.std.proofs.lemmas.Bool.{cases_order}
use Rattle.std.proofs.lemmas.Option.{slice_get_within}
use Rattle.cn_table.specs.TypeTable.{TypeTable}
use Rattle.cn_choice.specs.Canonical.{Choice, raw_choice_of}
use Rattle.cn_choice.specs.Collisions.{Collision}
use Rattle.cn_choice.specs.Discerning.{IsWitness, OutcomeSetsMeet}
use Rattle.cn_choice.specs.FirstMeeting.{IsFirstMeeting}
use Rattle.cn_cert.specs.Certificate.{Certificate}
use Rattle.cn_check.specs.Conditions.{HasWitnessFor, HoldsCollision, IsInRange}
use Rattle.cn_check.specs.Faults.{ComesSooner, HasFault, IsFirstFault}
use Rattle.cn_check.specs.EvidenceFaults.{IsEvidenceFault, IsWitnessFault}
use Rattle.cn_check.specs.Refutations.{AreRefuted, IsOfChoice}
use Rattle.cn_check.specs.Versions.{choices_to_refute_in}
use Rattle.cn_check.specs.declared.fault.CheckFault.{CheckFault}
use Rattle.cn_check.specs.declared.fault.CheckFault.TheVariants.{OtherType, BadNumber, WitnessShape, WitnessMeets, Unexpected, NotNext, NotACollision, TooFew}

-- an element that is there has what each one has
pub not_some : {X : Type 0} (P Q : X → Type 0) (o : Option X) → ((x : X) → P x → Q x → ⊥) → IsSomeAnd o P → ¬ IsSomeAnd o Q
not_some P Q None f p q = q
not_some P Q (Some x) f p q = f x p q

pub not_some_if : {X : Type 0} (P Q : X → Type 0) (o : Option X) → ((x : X) → P x → Q x → ⊥) → IfSome o P → ¬ IsSomeAnd o Q
not_some_if P Q None f p q = q
not_some_if P Q (Some x) f p q = f x p q

-- a place at which something is there is inside the list
inside : {X : Type 0} (P : X → Type 0) (xs : List X) (i : ℕ) → IsSomeAnd (slice_get xs i) P → i < length xs
inside P xs i h = by_cases (slice_get xs i) refl h
  where
    by_cases : (o : Option _) → slice_get xs i ≡ o → IsSomeAnd o P → i < length xs
    by_cases None e h = absurd h
    by_cases (Some x) e h = slice_get_within xs i x e

module _ (t : TypeTable) (c : Certificate) (named : c.type_name ≡ t.name) (in_range : IsInRange c.version c.limit c.number) where
  pub first_of_witness : (e : CheckFault) → IsWitnessFault t c.number c.witness e → IsFirstFault t c e
  first_of_witness OtherType h = absurd h
  first_of_witness BadNumber h = absurd h
  first_of_witness WitnessShape h = record { holds = h; first = first }
    where
      first : (f : CheckFault) → ComesSooner f WitnessShape → ¬ HasFault t c f
      first OtherType s g = g named
      first BadNumber s g = g in_range
      first WitnessShape s g = elim s [ inl l ↦ absurd (omega arith) | inr e ↦ absurd (omega (arith, e.1)) ]
      first (WitnessMeets i) s g = elim s [ inl l ↦ absurd (omega arith) | inr e ↦ absurd (omega (arith, e.0)) ]
      first Unexpected s g = elim s [ inl l ↦ absurd (omega arith) | inr e ↦ absurd (omega (arith, e.0)) ]
      first (NotNext i) s g = elim s [ inl l ↦ absurd (omega arith) | inr e ↦ absurd (omega (arith, e.0)) ]
      first (NotACollision i) s g = elim s [ inl l ↦ absurd (omega arith) | inr e ↦ absurd (omega (arith, e.0)) ]
      first TooFew s g = elim s [ inl l ↦ absurd (omega arith) | inr e ↦ absurd (omega (arith, e.0)) ]
  first_of_witness (WitnessMeets j) h = record { holds = meets c.witness h.1; first = first }
    where
      meets : (w : Option Choice) → IsSomeAnd w (λ x. IsFirstMeeting t (raw_choice_of x) j) → IsSomeAnd w (λ x. OutcomeSetsMeet t (raw_choice_of x) j)
      meets None g = g
      meets (Some x) g = g.meets

      first : (f : CheckFault) → ComesSooner f (WitnessMeets j) → ¬ HasFault t c f
      first OtherType s g = g named
      first BadNumber s g = g in_range
      first WitnessShape s g = g h.0
      first (WitnessMeets i) s g =
          elim s [
            | inl l ↦ absurd (omega arith)
            | inr e ↦ not_some (λ x. IsFirstMeeting t (raw_choice_of x) j) (λ x. OutcomeSetsMeet t (raw_choice_of x) i) c.witness (λ x p q. p.least i e.1 q) h.1 g
          ]
      first Unexpected s g = elim s [ inl l ↦ absurd (omega arith) | inr e ↦ absurd (omega (arith, e.0)) ]
      first (NotNext i) s g = elim s [ inl l ↦ absurd (omega arith) | inr e ↦ absurd (omega (arith, e.0)) ]
      first (NotACollision i) s g = elim s [ inl l ↦ absurd (omega arith) | inr e ↦ absurd (omega (arith, e.0)) ]
      first TooFew s g = elim s [ inl l ↦ absurd (omega arith) | inr e ↦ absurd (omega (arith, e.0)) ]
  first_of_witness Unexpected h = absurd h
  first_of_witness (NotNext i) h = absurd h
  first_of_witness (NotACollision i) h = absurd h
  first_of_witness TooFew h = absurd h

  module _ (fits : HasWitnessFor t c.number c.witness) (witness : IfSome c.witness (λ w. IsWitness t (raw_choice_of w))) where
    no_meeting : (j : ℕ) → ¬ HasFault t c (WitnessMeets j)
    no_meeting j g = not_some_if (λ w. IsWitness t (raw_choice_of w)) (λ w. OutcomeSetsMeet t (raw_choice_of w) j) c.witness (λ w is meet. is j meet.0 meet.1 meet.2) witness g

    refuted_fits : (place : ℕ) → AreRefuted t (choices_to_refute_in c.version t c.limit c.number) c.collisions place → (k : ℕ) → k < place → ¬ HasFault t c (NotNext k)
    refuted_fits place h k l g =
        not_some (λ e. IsOfChoice (choices_to_refute_in c.version t c.limit c.number) k e × HoldsCollision t e)
        (λ e. ¬ IsOfChoice (choices_to_refute_in c.version t c.limit c.number) k e) (slice_get c.collisions k) (λ e p q. q p.0)
        (h k l) g

    refuted_holds : (place : ℕ) → AreRefuted t (choices_to_refute_in c.version t c.limit c.number) c.collisions place → (k : ℕ) → k < place → ¬ HasFault t c (NotACollision k)
    refuted_holds place h k l g =
        not_some (λ e. IsOfChoice (choices_to_refute_in c.version t c.limit c.number) k e × HoldsCollision t e) (λ e. ¬ HoldsCollision t e) (slice_get c.collisions k) (λ e p q. q p.1) (h k l) g

    pub first_of_evidence : (e : CheckFault) → IsEvidenceFault t c.version c.limit c.number c.collisions e → IsFirstFault t c e
    first_of_evidence OtherType h = absurd h
    first_of_evidence BadNumber h = absurd h
    first_of_evidence WitnessShape h = absurd h
    first_of_evidence (WitnessMeets j) h = absurd h
    first_of_evidence Unexpected h = record { holds = h; first = first }
      where
        first : (f : CheckFault) → ComesSooner f Unexpected → ¬ HasFault t c f
        first OtherType s g = g named
        first BadNumber s g = g in_range
        first WitnessShape s g = g fits
        first (WitnessMeets i) s g = no_meeting i g
        first Unexpected s g = elim s [ inl l ↦ absurd (omega arith) | inr e ↦ absurd (omega (arith, e.1)) ]
        first (NotNext i) s g = elim s [ inl l ↦ absurd (omega arith) | inr e ↦ absurd (omega (arith, e.0)) ]
        first (NotACollision i) s g = elim s [ inl l ↦ absurd (omega arith) | inr e ↦ absurd (omega (arith, e.0)) ]
        first TooFew s g = elim s [ inl l ↦ absurd (omega arith) | inr e ↦ absurd (omega (arith, e.0)) ]
    first_of_evidence (NotNext i) h = record { holds = h.1.1; first = first }
      where
        first : (f : CheckFault) → ComesSooner f (NotNext i) → ¬ HasFault t c f
        first OtherType s g = g named
        first BadNumber s g = g in_range
        first WitnessShape s g = g fits
        first (WitnessMeets j) s g = no_meeting j g
        first Unexpected s g = h.0 g.0
        first (NotNext k) s g = elim s [ inl l ↦ absurd (omega arith) | inr e ↦ refuted_fits i h.1.0 k (omega (arith, e.1)) g ]
        first (NotACollision k) s g = elim s [ inl l ↦ absurd (omega arith) | inr e ↦ refuted_holds i h.1.0 k (omega (arith, e.1)) g ]
        first TooFew s g = elim s [ inl l ↦ absurd (omega arith) | inr e ↦ absurd (omega (arith, e.0)) ]
    first_of_evidence (NotACollision i) h = record { holds = holds (slice_get c.collisions i) h.1.1; first = first }
      where
        holds : (o : Option Collision) → IsSomeAnd o (λ e. IsOfChoice (choices_to_refute_in c.version t c.limit c.number) i e × ¬ HoldsCollision t e) → IsSomeAnd o (λ e. ¬ HoldsCollision t e)
        holds None g = g
        holds (Some e) g = g.1

        here : (k : ℕ) → ((k ≡ i) ⊎ ((k < i) ⊎ (i < k))) → k < i + 1 → ¬ HasFault t c (NotNext k)
        here k (inl same) l g =
            not_some (λ e. IsOfChoice (choices_to_refute_in c.version t c.limit c.number) i e × ¬ HoldsCollision t e)
            (λ e. ¬ IsOfChoice (choices_to_refute_in c.version t c.limit c.number) i e) (slice_get c.collisions i)
            (λ e p q. q p.0) h.1.1
            (subst (λ (j : ℕ). HasFault t c (NotNext j)) same g)
        here k (inr (inl sooner)) l g = refuted_fits i h.1.0 k sooner g
        here k (inr (inr later)) l g = absurd (omega arith)

        first : (f : CheckFault) → ComesSooner f (NotACollision i) → ¬ HasFault t c f
        first OtherType s g = g named
        first BadNumber s g = g in_range
        first WitnessShape s g = g fits
        first (WitnessMeets j) s g = no_meeting j g
        first Unexpected s g = h.0 g.0
        first (NotNext k) s g = elim s [ inl l ↦ absurd (omega arith) | inr e ↦ here k (cases_order k i) (omega (arith, e.1)) g ]
        first (NotACollision k) s g = elim s [ inl l ↦ absurd (omega arith) | inr e ↦ refuted_holds i h.1.0 k (omega (arith, e.1)) g ]
        first TooFew s g = elim s [ inl l ↦ absurd (omega arith) | inr e ↦ absurd (omega (arith, e.0)) ]
    first_of_evidence TooFew h = record { holds = h.1.1; first = first }
      where
        first : (f : CheckFault) → ComesSooner f TooFew → ¬ HasFault t c f
        first OtherType s g = g named
        first BadNumber s g = g in_range
        first WitnessShape s g = g fits
        first (WitnessMeets j) s g = no_meeting j g
        first Unexpected s g = h.0 g.0
        first (NotNext k) s g = refuted_fits (length c.collisions) h.1.0 k (inside _ c.collisions k g) g
        first (NotACollision k) s g = refuted_holds (length c.collisions) h.1.0 k (inside _ c.collisions k g) g
        first TooFew s g = elim s [ inl l ↦ absurd (omega arith) | inr e ↦ absurd (omega (arith, e.1)) ]
