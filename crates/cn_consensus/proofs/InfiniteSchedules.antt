-- Wait-freedom in infinite schedules: it follows from a bound; and, with excluded middle, a bound
-- follows from it.
use Rattle.std.proofs.Common.{◌≡◌, ◌≢◌, ℕ, zero, suc, ◌+◌, ◌-◌, ◌<◌, ◌≤◌, ◌⊎◌, inl, inr, [], ◌∷◌}
use Rattle.std.proofs.Common.{refl, sym, ap, ◌∙◌, subst, arith, Bool, Option, Some, None}
use Rattle.cn_table.specs.TypeTable.{TypeTable}
use Rattle.cn_consensus.specs.Protocol.{Protocol}
use Rattle.cn_consensus.specs.Configuration.{Configuration, after, decision, initial, step}
use Rattle.cn_consensus.specs.Consensus.{IsBoundedWaitFree, IsSchedule, occurrences}
use Rattle.cn_consensus.specs.WaitFreedom.{Ends, EveryRunEnds, ExcludedMiddle, IsInfinitelyOften}
use Rattle.cn_consensus.specs.WaitFreedom.{IsFinitelyOften, IsWaitFree, first_steps}
use Rattle.cn_consensus.specs.WaitFreedom.Ends.{Ending}
use Rattle.cn_consensus.proofs.Alike.{after-append, stays}
use Rattle.cn_consensus.proofs.Counting.{first_or_all, occurrences-append, occurrences_own}
use Rattle.cn_consensus.proofs.Counting.{one_for_all, schedule-append}
use Rattle.cn_consensus.proofs.WellFoundedRuns.{bounded}

-- ---- from a bound

first_schedule : (n : ℕ) (f : ℕ → ℕ) → ((k : ℕ) → f k < n) → (k : ℕ)
    → IsSchedule n (first_steps f k)
first_schedule n f h zero = tt
first_schedule n f h (suc k) = schedule-append n (first_steps f k) (f k ∷ [])
    (first_schedule n f h k) (h k, tt)

more_often : (f : ℕ → ℕ) (p k d : ℕ) → occurrences (first_steps f k) p ≤ occurrences
    (first_steps f (k + d)) p
more_often f p k zero = let e : k + 0 ≡ k = omega arith in subst (λ (m : ℕ).
    occurrences (first_steps f k) p ≤ occurrences (first_steps f m) p) (sym e) (omega arith)
more_often f p k (suc d) =
    let e : k + suc d ≡ suc (k + d) = omega arith in
    subst (λ (m : ℕ). occurrences (first_steps f k) p ≤ occurrences (first_steps f m) p) (sym e)
    (omega (
      arith,
      more_often f p k d,
      occurrences-append (first_steps f (k + d)) (f (k + d) ∷ [])
          p,
    ))

-- so often as one wants
named : (f : ℕ → ℕ) (p b : ℕ) → IsInfinitelyOften f p
    → (k : ℕ) × (b ≤ occurrences (first_steps f k) p)
named f p zero often = (0, omega arith)
named f p (suc b) often =
    let r = named f p b often in
    let m = often r.0 in
    let e : r.0 + (m.0 - r.0) ≡ m.0 = omega arith in
    let grown : occurrences (first_steps f r.0) p ≤ occurrences (first_steps f m.0) p =
    subst (λ (k : ℕ). occurrences (first_steps f r.0) p ≤ occurrences (first_steps f k) p) e
    (more_often f p r.0 (m.0 - r.0)) in
    let own : occurrences (f m.0 ∷ []) p ≡ 1 = ap (λ (q : ℕ). occurrences (q ∷ []) p) m.2
    ∙ occurrences_own p in
    (suc m.0, omega (arith, r.1, grown, own, occurrences-append (first_steps f m.0) (f m.0 ∷ []) p))

pub wait_free : {L V : Type 0} (t : ℕ → TypeTable) (n : ℕ) (P : Protocol L V)
    → IsBoundedWaitFree t n P → IsWaitFree t n P
wait_free t n P bound inputs f h p often =
    let w = bound inputs in
    let r = named f p w.0 often in
    let d = w.1 (first_steps f r.0) (first_schedule n f h r.0) p (subst (λ (q : ℕ).
    q < n) (often 0).2 (h (often 0).0)) r.1 in
    (r.0, d.0, d.1)

-- ---- to a bound

module _ {L V : Type 0} (t : ℕ → TypeTable) (n : ℕ) (P : Protocol L V)
    (classical : ExcludedMiddle t n P) where
  -- from a configuration whose runs do not all end, some process that has not decided leads to
  -- another
  abbrev GoesOn : Configuration L V → Type 0
  GoesOn c = (p : ℕ) × (p < n) × (decision P c p ≡ None) × ¬ Ends t n P (step t P c p)

  goes_on : (c : Configuration L V) → ¬ Ends t n P c → GoesOn c
  goes_on c endless = elim (first_or_all n (λ p. decision P c p ≡ None
      → Ends t n P (step t P c p)) (GoesOn c) (λ p l. by_decision p l (decision P c p) refl)) [
        | inl all ↦ absurd (endless (Ending all))
        | inr found ↦ found
      ]
    where
      by_decision : (p : ℕ) → p < n → (d : Option Bool) → decision P c p ≡ d
          → (decision P c p ≡ None → Ends t n P (step t P c p)) ⊎ GoesOn c
      by_decision p l (Some x) e = inl (λ f. absurd (cc (e, f)))
      by_decision p l None e = elim (classical.run (step t P c p)) [
        | inl ends ↦ inl (λ f.
            ends)
        | inr more ↦ inr (p, l, e, more)
      ]

  module _ (inputs : ℕ → Bool) (endless : ¬ Ends t n P (initial P inputs)) where
    -- the configuration after k steps of a run that does not end
    reached : ℕ → (c : Configuration L V) × ¬ Ends t n P c
    reached zero = (initial P inputs, endless)
    reached (suc k) = let c = reached k in let g = goes_on c.0 c.1 in (step t P c.0 g.0, g.3)

    mover : ℕ → ℕ
    mover k = (goes_on (reached k).0 (reached k).1).0

    mover_known : (k : ℕ) → mover k < n
    unfolding mover
    mover_known k = (goes_on (reached k).0 (reached k).1).1

    mover_undecided : (k : ℕ) → decision P (reached k).0 (mover k) ≡ None
    unfolding mover
    mover_undecided k = (goes_on (reached k).0 (reached k).1).2

    reached_is : (k : ℕ) → after t P (initial P inputs) (first_steps mover k) ≡ (reached k).0
    unfolding reached mover
    reached_is zero = refl
    reached_is (suc k) =
        after-append t P (initial P inputs) (first_steps mover k) (mover k ∷ [])
        ∙ ap (λ (c : Configuration L V). step t P c (mover k)) (reached_is k)

    -- some process moves again and again
    all_seldom : ((p : ℕ) → p < n → IsFinitelyOften mover p) → ⊥
    all_seldom seldom =
        let r = one_for_all n (λ p b. (m : ℕ) → b ≤ m
        → mover m ≢ p) (λ p b c l h m u. h m (omega (arith, l, u))) seldom in
        r.1 (mover r.0) (mover_known r.0) r.0 (omega arith) refl

    someone_often : (p : ℕ) × (p < n) × IsInfinitelyOften mover p
    someone_often = elim (first_or_all n (IsFinitelyOften mover)
        ((p : ℕ) × (p < n) × IsInfinitelyOften mover p) (λ p l.
        elim (classical.often mover p) [
          | inl often ↦ inr (
            p,
            l,
            often,
          )
          | inr seldom ↦ inl seldom
        ])) [
          | inl all ↦ absurd (all_seldom all)
          | inr found ↦ found
        ]

    still : (p k d : ℕ) (x : Bool) → decision P (reached k).0 p ≡ Some x
        → decision P (reached (k + d)).0 p ≡ Some x
    unfolding reached
    still p k zero x e = let f : k ≡ k + 0 = omega arith in subst (λ (m : ℕ).
        decision P (reached m).0 p ≡ Some x) f e
    still p k (suc d) x e =
        let f : suc (k + d) ≡ k + suc d = omega arith in
        subst (λ (m : ℕ). decision P (reached m).0 p ≡ Some x) f
        (stays t P p ((goes_on (reached (k + d)).0 (reached (k + d)).1).0 ∷ [])
        (reached (k + d)).0 x (still p k d x e))

    absurd_run : IsWaitFree t n P → ⊥
    absurd_run free =
        let s = someone_often in
        let d = free inputs mover mover_known s.0 s.2 in
        let m = s.2 d.0 in
        let e : d.0 + (m.0 - d.0) ≡ m.0 = omega arith in
        let then : decision P (reached d.0).0 s.0 ≡ Some d.1 =
        ap (λ (c : Configuration L V). decision P c s.0) (sym (reached_is d.0)) ∙ d.2 in
        let now : decision P (reached m.0).0 s.0 ≡ Some d.1 =
        subst (λ (k : ℕ). decision P (reached k).0 s.0 ≡ Some d.1) e
        (still s.0 d.0 (m.0 - d.0) d.1 then) in
        let none : decision P (reached m.0).0 s.0 ≡ None =
        subst (λ (q : ℕ). decision P (reached m.0).0 q ≡ None) m.2 (mover_undecided m.0) in
        absurd (cc (now, none))

  every_run_ends : IsWaitFree t n P → EveryRunEnds t n P
  every_run_ends free inputs = elim (classical.run (initial P inputs))
      [ inl ends ↦ ends | inr endless ↦ absurd (absurd_run inputs endless free) ]

  pub bound_from_wait_freedom : IsWaitFree t n P → IsBoundedWaitFree t n P
  bound_from_wait_freedom free = bounded t n P (every_run_ends free)
