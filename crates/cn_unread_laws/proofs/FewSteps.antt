-- Configurations from which processes that have not decided can take so many steps, and no more.
use Rattle.std.proofs.Common.{◌≡◌, ℕ, zero, suc, ◌-◌, ◌<◌, ◌≤◌, inl, inr, List, [], ◌∷◌, ◌++◌}
use Rattle.std.proofs.Common.{refl, sym, ◌∙◌, subst, arith, Bool, Option, Some, None}
use Rattle.std.proofs.lemmas.Bool.{cases_lt}
use Rattle.cn_table.specs.TypeTable.{TypeTable}
use Rattle.cn_consensus.specs.Protocol.{Protocol}
use Rattle.cn_consensus.specs.Configuration.{Configuration, after, decision, initial, step}
use Rattle.cn_consensus.specs.Consensus.{IsBoundedWaitFree, IsSchedule, occurrences}
use Rattle.cn_consensus.proofs.Alike.{after-append, stands}
use Rattle.cn_consensus.proofs.Counting.{occurrences-append, occurrences_own, schedule-append}
use Rattle.cn_consensus.proofs.Counting.{total, total_falls}

module _ {L V : Type 0} (t : ℕ → TypeTable) (n : ℕ) (P : Protocol L V) where
  abbrev pub EndsIn : ℕ → Configuration L V → Type 0
  EndsIn zero d = (p : ℕ) → p < n → decision P d p ≡ None → ⊥
  EndsIn (suc m) d = (p : ℕ) → p < n → decision P d p ≡ None → EndsIn m (step t P d p)

  -- after a step of any process, decided or not
  pub ends_step : (m : ℕ) (d : Configuration L V) (p : ℕ) → p < n → EndsIn m d
      → (k : ℕ) × EndsIn k (step t P d p)
  ends_step m d p l h = by_decision (decision P d p) refl
    where
      fewer : (m : ℕ) → EndsIn m d → decision P d p ≡ None → (k : ℕ) × EndsIn k (step t P d p)
      fewer zero g e = absurd (g p l e)
      fewer (suc m) g e = (m, g p l e)

      by_decision : (x : Option Bool) → decision P d p ≡ x → (k : ℕ) × EndsIn k (step t P d p)
      by_decision None e = fewer m h e
      by_decision (Some x) e = (m, subst (EndsIn m) (sym (stands t P p d x e)) h)

  pub ends_later : (s : List ℕ) (m : ℕ) (d : Configuration L V) → IsSchedule n s → EndsIn m d
      → (k : ℕ) × EndsIn k (after t P d s)
  ends_later [] m d h g = (m, g)
  ends_later (p ∷ s) m d h g = let r = ends_step m d p h.0 g in
      ends_later s r.0 (step t P d p) h.1 r.1

  -- the steps that are left to the processes after s, if each takes b
  abbrev left : ℕ → List ℕ → ℕ
  left b s = total (λ p. b - occurrences s p) n

  module _ (inputs : ℕ → Bool) (b : ℕ) (w : (schedule : List ℕ) → IsSchedule n schedule
      → (p : ℕ) → p < n → b ≤ occurrences schedule p
      → (x : Bool) × (decision P (after t P (initial P inputs) schedule) p ≡ Some x)) where
    undecided_few : (s : List ℕ) → IsSchedule n s → (p : ℕ) → p < n
        → decision P (after t P (initial P inputs) s) p ≡ None → occurrences s p < b
    undecided_few s h p l e = elim (cases_lt (occurrences s p) b) [
      | inl few ↦ few
      | inr often ↦ absurd (let r = w s h p l often in none_some r.0 (sym e ∙ r.1))
    ]
      where
        none_some : (x : Bool) → None ≡ Some x → ⊥
        none_some x f = absurd (cc f)

    less_left : (s : List ℕ) (p : ℕ) → p < n → occurrences s p < b
        → left b (s ++ p ∷ []) < left b s
    less_left s p l few =
        total_falls (λ q. b - occurrences (s ++ p ∷ []) q) (λ q. b - occurrences s q) p n l
        (λ q. omega (arith, occurrences-append s (p ∷ []) q)) (omega (
          arith,
          occurrences-append s (p ∷ []) p,
          occurrences_own p,
          few,
        ))

    pub few_after : (m : ℕ) (s : List ℕ) → IsSchedule n s → left b s ≤ m
        → EndsIn m (after t P (initial P inputs) s)
    few_after zero s h l = λ p lp e. absurd (omega (
      arith,
      less_left s p lp (undecided_few s h p lp e),
      l,
    ))
    few_after (suc m) s h l = λ p lp e. subst (EndsIn m)
        (after-append t P (initial P inputs) s (p ∷ []))
        (few_after m (s ++ p ∷ []) (schedule-append n s (p ∷ []) h (lp, tt)) (omega (
          arith,
          less_left s p lp (undecided_few s h p lp e),
          l,
        )))

  pub some_end : IsBoundedWaitFree t n P → (inputs : ℕ → Bool) (s : List ℕ) → IsSchedule n s
      → (m : ℕ) × EndsIn m (after t P (initial P inputs) s)
  some_end bound inputs s h = let w = bound inputs in
      (left w.0 s, few_after inputs w.0 w.1 (left w.0 s) s h (omega arith))
