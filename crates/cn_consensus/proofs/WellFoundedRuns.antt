-- Well-founded runs: every run ends exactly if there is a bound on the steps of each process.
use Rattle.std.proofs.Common.{◌≡◌, ℕ, zero, suc, ◌-◌, ◌<◌, ◌≤◌, inl, inr, List, [], ◌∷◌, ◌++◌, refl}
use Rattle.std.proofs.Common.{sym, ap, ◌∙◌, subst, arith, Bool, Option, Some, None}
use Rattle.std.proofs.lemmas.Bool.{cases_eq, cases_lt}
use Rattle.cn_table.specs.TypeTable.{TypeTable}
use Rattle.cn_consensus.specs.Protocol.{Protocol}
use Rattle.cn_consensus.specs.Configuration.{Configuration, after, decision, initial, step}
use Rattle.cn_consensus.specs.Consensus.{IsBoundedWaitFree, IsSchedule, occurrences}
use Rattle.cn_consensus.specs.WaitFreedom.{Ends, EveryRunEnds}
use Rattle.cn_consensus.specs.WaitFreedom.Ends.{Ending}
use Rattle.cn_consensus.proofs.Alike.{after-append, stands, stays}
use Rattle.cn_consensus.proofs.Counting.{hit_few, occurrences-append, occurrences-cons}
use Rattle.cn_consensus.proofs.Counting.{occurrences_other, occurrences_own, one_for_all}
use Rattle.cn_consensus.proofs.Counting.{schedule-append, total, total_falls}

module _ {L V : Type 0} (t : ℕ → TypeTable) (n : ℕ) (P : Protocol L V) where
  -- from c a process has decided once it occurs b times
  abbrev Within : Configuration L V → ℕ → Type 0
  Within c b = (s : List ℕ) → IsSchedule n s → (p : ℕ) → p < n → b ≤ occurrences s p
      → (x : Bool) × (decision P (after t P c s) p ≡ Some x)

  later : (c : Configuration L V) (b d : ℕ) → b ≤ d → Within c b → Within c d
  later c b d l w s h p lp often = w s h p lp (omega (arith, often))

  one_more : (c : Configuration L V) (b : ℕ) → ((p : ℕ) → p < n → decision P c p ≡ None
      → Within (step t P c p) b) → Within c (suc b)
  one_more c b each [] h p l often = absurd (omega (arith, often))
  one_more c b each (q ∷ s) h p l often = by_decision (λ few.
      one_more c b each s h.1 p l few) (decision P c q) refl
    where
      by_decision : (suc b ≤ occurrences s p → (x : Bool) ×
          (decision P (after t P c s) p ≡ Some x)) → (d : Option Bool) → decision P c q ≡ d
          → (x : Bool) × (decision P (after t P (step t P c q) s) p ≡ Some x)
      by_decision rest None e = each q h.0 e s h.1 p l (omega (
        arith,
        often,
        occurrences-cons q s p,
        hit_few q p,
      ))
      by_decision rest (Some x) e = elim (cases_eq q p) [
        | inl same ↦ (
          x,
          ap (λ (z : Configuration L V).
              decision P (after t P z s) p) (stands t P q c x e)
              ∙ stays t P p s c x (ap (decision P c) (sym same) ∙ e),
        )
        | inr apart ↦ (let r = rest (omega (arith, often, occurrences_other q s p apart)) in (
          r.0,
          ap (λ (z : Configuration L V). decision P (after t P z s) p) (stands t P q c x e)
              ∙ r.1,
        ))
      ]

  bound_from : (c : Configuration L V) → Ends t n P c → (b : ℕ) × Within c b
  bound_from c (Ending next) =
      let r = one_for_all n (λ p b. decision P c p ≡ None
      → Within (step t P c p) b) (λ p b d l w e. later (step t P c p) b d l (w e)) (λ p l.
      by_decision p (λ e. bound_from (step t P c p) (next p l e)) (decision P c p) refl) in
      (suc r.0, one_more c r.0 r.1)
    where
      by_decision : (p : ℕ) → (decision P c p ≡ None → (b : ℕ) × Within (step t P c p) b)
          → (d : Option Bool) → decision P c p ≡ d
          → (b : ℕ) × (decision P c p ≡ None → Within (step t P c p) b)
      by_decision p w None e = let r = w e in (r.0, λ f. r.1)
      by_decision p w (Some x) e = (0, λ f. absurd (cc (e, f)))

  pub bounded : EveryRunEnds t n P → IsBoundedWaitFree t n P
  bounded ends inputs = bound_from (initial P inputs) (ends inputs)

  module _ (c : Configuration L V) (b : ℕ) (w : Within c b) where
    -- the steps that are left to the processes after s, if each takes b
    abbrev left : List ℕ → ℕ
    left s = total (λ p. b - occurrences s p) n

    undecided_few : (s : List ℕ) → IsSchedule n s → (p : ℕ) → p < n
        → decision P (after t P c s) p ≡ None → occurrences s p < b
    undecided_few s h p l e = elim (cases_lt (occurrences s p) b) [
      | inl few ↦ few
      | inr often ↦ absurd (let r =
          w s h p l often in none_some r.0 (sym e ∙ r.1))
    ]
      where
        none_some : (x : Bool) → None ≡ Some x → ⊥
        none_some x f = absurd (cc f)

    less_left : (s : List ℕ) (p : ℕ) → p < n → occurrences s p < b → left (s ++ p ∷ []) < left s
    less_left s p l few =
        total_falls (λ q. b - occurrences (s ++ p ∷ []) q) (λ q. b - occurrences s q) p n l
        (λ q. omega (arith, occurrences-append s (p ∷ []) q)) (omega (
          arith,
          occurrences-append s (p ∷ []) p,
          occurrences_own p,
          few,
        ))

    ends_after : (fuel : ℕ) (s : List ℕ) → IsSchedule n s → left s ≤ fuel
        → Ends t n P (after t P c s)
    ends_after zero s h l = Ending (λ p lp e. absurd (omega (
      arith,
      less_left s p lp (undecided_few s h p lp e),
      l,
    )))
    ends_after (suc fuel) s h l = Ending (λ p lp e.
        subst (Ends t n P) (after-append t P c s (p ∷ []))
        (ends_after fuel (s ++ p ∷ []) (schedule-append n s (p ∷ []) h (lp, tt)) (omega (
          arith,
          less_left s p lp (undecided_few s h p lp e),
          l,
        ))))

  pub ended : IsBoundedWaitFree t n P → EveryRunEnds t n P
  ended bound inputs = let w = bound inputs in ends_after (initial P inputs) w.0 w.1
      (left (initial P inputs) w.0 w.1 []) [] tt (omega arith)
