-- A series of crashes: each process from some number on crashes once.
use Rattle.std.proofs.Common.{◌≡◌, ℕ, zero, suc, ◌+◌, ◌-◌, ◌<◌, ◌≤◌, inl, inr, List, [], ◌∷◌, refl}
use Rattle.std.proofs.Common.{sym, ap, ◌∙◌, subst, arith, Bool}
use Rattle.std.proofs.lemmas.Bool.{cases_eq}
use Rattle.cn_table.specs.TypeTable.{TypeTable}
use Rattle.cn_consensus.specs.Protocol.{Protocol}
use Rattle.cn_consensus.specs.Configuration.{Configuration, put}
use Rattle.cn_consensus.proofs.Alike.{put-other, put-same}
use Rattle.cn_crashes.specs.Execution.{Event, IsExecution, NeverCrashes, after_execution}
use Rattle.cn_crashes.specs.Execution.{after_crash}
use Rattle.cn_crashes.specs.Execution.Event.{Crash}
use Rattle.cn_crashes.proofs.SureValues.{Budget, Sure, spend, sure_crash}

-- crashes of k processes, from j on
pub crashes : ℕ → ℕ → List Event
crashes j zero = []
crashes j (suc k) = Crash j ∷ crashes (suc j) k

pub spends : Budget → ℕ → ℕ → Budget
spends b j zero = b
spends b j (suc k) = spends (spend b j) (suc j) k

pub crashes_execution : (n j k : ℕ) → j + k ≤ n → IsExecution n (crashes j k)
unfolding crashes
crashes_execution n j zero l = tt
crashes_execution n j (suc k) l = (
  omega (arith, l),
  crashes_execution n (suc j) k (omega (arith, l)),
)

spends_below : (b : Budget) (j k p : ℕ) → p < j → spends b j k p ≡ b p
unfolding spends
spends_below b j zero p l = refl
spends_below b j (suc k) p l = spends_below (spend b j) (suc j) k p (omega (arith, l))
    ∙ put-other b j (b j - 1) p (λ e. absurd (omega (arith, l, e)))

pub spends_less : (b : Budget) (j k p : ℕ) → b p ≤ spends b j k p + 1
unfolding spends
spends_less b j zero p = omega arith
spends_less b j (suc k) p = elim (cases_eq p j) [
  | inl e ↦
      (let f : spends (spend b j) (suc j) k p ≡ spend b j p =
      spends_below (spend b j) (suc j) k p (omega (arith, e)) in
      let g : spend b j p ≡ b j - 1 = ap (spend b j) e ∙ put-same b j (b j - 1) in
      let h = ap b e in
      omega (arith, f, g, h))
  | inr d ↦ (let f : spend b j p ≡ b p = put-other b j (b j - 1) p d in omega (
    arith,
    f,
    spends_less (spend b j) (suc j) k p,
  ))
]

pub crashes_never : (j k i : ℕ) → i < j → NeverCrashes i (crashes j k)
unfolding crashes
crashes_never j zero i l = tt
crashes_never j (suc k) i l = (
  λ e. absurd (let f : j ≡ i = cc e in omega (arith, l, f)),
  crashes_never (suc j) k i (omega (arith, l)),
)

module _ {L V : Type 0} (t : ℕ → TypeTable) (n : ℕ) (P : Protocol L V) (inputs : ℕ → Bool) where
  pub crashed_registers : (j k : ℕ) (d : Configuration L V) (i : ℕ)
      → (after_execution t P inputs d (crashes j k)).registers i ≡ d.registers i
  unfolding crashes
  crashed_registers j zero d i = refl
  crashed_registers j (suc k) d i = crashed_registers (suc j) k (after_crash P inputs d j) i

  pub crashed_objects : (j k : ℕ) (d : Configuration L V) (i : ℕ)
      → (after_execution t P inputs d (crashes j k)).objects i ≡ d.objects i
  unfolding crashes
  crashed_objects j zero d i = refl
  crashed_objects j (suc k) d i = crashed_objects (suc j) k (after_crash P inputs d j) i

  pub crashed_below : (j k : ℕ) (d : Configuration L V) (p : ℕ) → p < j
      → (after_execution t P inputs d (crashes j k)).locals p ≡ d.locals p
  unfolding crashes
  crashed_below j zero d p l = refl
  crashed_below j (suc k) d p l = crashed_below (suc j) k (after_crash P inputs d j) p
      (omega (arith, l)) ∙ put-other d.locals j (P.start j (inputs j)) p (λ e.
      absurd (omega (arith, l, e)))

  pub crashed_above : (j k : ℕ) (d : Configuration L V) (p : ℕ) → j ≤ p → p < j + k
      → (after_execution t P inputs d (crashes j k)).locals p ≡ P.start p (inputs p)
  unfolding crashes
  crashed_above j zero d p l u = absurd (omega (arith, l, u))
  crashed_above j (suc k) d p l u = elim (cases_eq p j) [
    | inl e ↦ crashed_below (suc j) k (after_crash P inputs d j) p (omega (arith, e))
        ∙ (ap (put d.locals j (P.start j (inputs j))) e
        ∙ (put-same d.locals j (P.start j (inputs j))
        ∙ ap (λ (q : ℕ). P.start q (inputs q)) (sym e)))
    | inr d' ↦ crashed_above (suc j) k (after_crash P inputs d j) p (omega (
      arith,
      l,
      d',
    )) (omega (arith, u))
  ]

  pub sure_crashes : (x : Bool) (j k : ℕ) (d : Configuration L V) (b : Budget) → j + k ≤ n
      → Sure t n P inputs x d b → ((p : ℕ) → j ≤ p → p < n → 1 ≤ b p)
      → Sure t n P inputs x (after_execution t P inputs d (crashes j k)) (spends b j k)
  unfolding crashes spends
  sure_crashes x j zero d b l h some = h
  sure_crashes x j (suc k) d b l h some =
      sure_crashes x (suc j) k (after_crash P inputs d j) (spend b j) (omega (arith, l))
      (sure_crash t n P inputs x d b j (omega (
        arith,
        l,
      )) (some j (omega arith) (omega (arith, l))) h)
      (λ p u v. subst (λ (z : ℕ). 1 ≤ z) (sym (put-other b j (b j - 1) p (λ e.
      absurd (omega (arith, u, e))))) (some p (omega (arith, u)) v))
