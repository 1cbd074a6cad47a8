-- A search for a critical configuration: from each configuration there is one, or the configuration
-- is univalent.
use Rattle.std.proofs.Common.{◌≡◌, ℕ, zero, suc, ◌+◌, ◌<◌, ◌≤◌, ◌⊎◌, inl, inr, List, [], ◌∷◌, ◌++◌}
use Rattle.std.proofs.Common.{length, length-append, ap, ◌∙◌, subst, arith, Bool, true, false, Some}
use Rattle.std.proofs.lemmas.Bool.{cases_Bool, cases_lt}
use Rattle.cn_table.specs.TypeTable.{TypeTable}
use Rattle.cn_consensus.specs.Protocol.{Protocol}
use Rattle.cn_consensus.specs.Configuration.{Configuration, step, after, decision}
use Rattle.cn_consensus.specs.Consensus.{IsSchedule}
use Rattle.cn_consensus.specs.Valence.{DecidesAlone, IsCritical, IsValent}
use Rattle.cn_consensus.proofs.Alike.{after-append, stays, stays_by_step}
use Rattle.cn_consensus.proofs.Counting.{first_or_all, schedule-append}

-- what the search rests on: after each schedule from c each process decides if it runs alone, some
-- process has decided if the schedule is long,
-- all decisions agree, and each object is in a state of the type
pub record IsLive {L V : Type 0} (t : ℕ → TypeTable) (n : ℕ) (P : Protocol L V)
    (c : Configuration L V) (long : ℕ) : Type 0 where
  pub finishes : (s : List ℕ) → IsSchedule n s → DecidesAlone t n P (after t P c s)
  pub ends : (s : List ℕ) → IsSchedule n s → long ≤ length s
      → (p : ℕ) × (p < n) × (x : Bool) × (decision P (after t P c s) p ≡ Some x)
  pub agree : (s : List ℕ) → IsSchedule n s → (p q : ℕ) (x y : Bool) → p < n → q < n
      → decision P (after t P c s) p ≡ Some x → decision P (after t P c s) q ≡ Some y → x ≡ y
  pub states_known : (s : List ℕ) → IsSchedule n s → (i : ℕ)
      → (after t P c s).objects i < length (t i).states

module _ {L V : Type 0} (t : ℕ → TypeTable) (n : ℕ) (P : Protocol L V) where
  abbrev pub IsUnivalent : Configuration L V → Type 0
  IsUnivalent d = (x : Bool) × IsValent t n P x d

  module _ (c : Configuration L V) (long : ℕ) (live : IsLive t n P c long) where
    -- a schedule that leads to a critical configuration
    abbrev pub LeadsToCritical : Type 0
    LeadsToCritical = (s : List ℕ) × IsSchedule n s × IsCritical t n P (after t P c s)

    univalent_once_decided : (s : List ℕ) → IsSchedule n s → (p : ℕ) → p < n → (x : Bool)
        → decision P (after t P c s) p ≡ Some x → IsValent t n P x (after t P c s)
    univalent_once_decided s h p l x e u k q m y f =
        live.agree (s ++ u) (schedule-append n s u h k) q p y x m l
        (ap (λ (d : Configuration L V). decision P d q) (after-append t P c s u) ∙ f)
        (ap (λ (d : Configuration L V). decision P d p) (after-append t P c s u)
        ∙ stays t P p u (after t P c s) x e)

    module _ (s : List ℕ) (h : IsSchedule n s) (each : (p : ℕ) → p < n
        → IsUnivalent (step t P (after t P c s) p)) where
      packed : (p : ℕ) → (x : Bool) × (p < n → IsValent t n P x (step t P (after t P c s) p))
      packed p = elim (cases_lt p n) [
        | inl l ↦ ((each p l).0, λ m. (each p l).1)
        | inr g ↦ (
          false,
          λ m. absurd (omega arith),
        )
      ]

      of_one_valence : (x : Bool) → ((p : ℕ) → p < n → (packed p).0 ≡ x)
          → IsValent t n P x (after t P c s)
      of_one_valence x same [] k p l y e = (packed p).1 l [] tt p l y
          (stays_by_step t P p p (after t P c s) y e) ∙ same p l
      of_one_valence x same (q ∷ u) k p l y e = (packed q).1 k.0 u k.1 p l y e ∙ same q k.0

      by_value : (x y : Bool) → ((b : Bool) → (b ≡ x) ⊎ (b ≡ y))
          → ((p : ℕ) → p < n → (packed p).0 ≡ x) ⊎ ((p : ℕ) × (p < n) × ((packed p).0 ≡ y))
      by_value x y cases =
          first_or_all n (λ p. (packed p).0 ≡ x) ((p : ℕ) × (p < n) × ((packed p).0 ≡ y))
          (λ p l. elim (cases (packed p).0) [ inl e ↦ inl e | inr e ↦ inr (p, l, e) ])

      swapped : (b : Bool) → (b ≡ false) ⊎ (b ≡ true)
      swapped b = elim (cases_Bool b) [ inl e ↦ inr e | inr e ↦ inl e ]

      by_valences : IsUnivalent (after t P c s) ⊎ LeadsToCritical
      by_valences = elim (by_value false true swapped) [
        | inl all ↦ inl (false, of_one_valence false all)
        | inr high ↦ elim (by_value true false cases_Bool) [
          | inl all ↦ inl (true, of_one_valence true all)
          | inr low ↦ inr (
            s,
            h,
            record {
              valence = λ p. (packed p).0;
              valent = λ p. (packed p).1;
              low = low.0;
              low_known = low.1;
              low_valence = low.2;
              high = high.0;
              high_known = high.1;
              high_valence = high.2;
              finishes = λ u k.
                  subst (DecidesAlone t n P) (after-append t P c s u)
                  (live.finishes (s ++ u) (schedule-append n s u h k));
              states_known = live.states_known s h;
            },
          )
        ]
      ]

    onward : (s : List ℕ) (p : ℕ) → IsUnivalent (after t P c (s ++ p ∷ [])) ⊎ LeadsToCritical
        → IsUnivalent (step t P (after t P c s) p) ⊎ LeadsToCritical
    onward s p r = elim r [
      | inl u ↦ inl (subst IsUnivalent (after-append t P c s (p ∷ [])) u)
      | inr
          found ↦ inr found
    ]

    search_on : (steps : ℕ) (s : List ℕ) → IsSchedule n s → long ≤ length s + steps
        → IsUnivalent (after t P c s) ⊎ LeadsToCritical
    search_on zero s h l = let r = live.ends s h (omega arith) in inl (
      r.2,
      univalent_once_decided s h r.0 r.1 r.2 r.3,
    )
    search_on (suc steps) s h l = elim (
        first_or_all n (λ p. IsUnivalent (step t P (after t P c s) p)) LeadsToCritical (λ p m.
        onward s p (search_on steps (s ++ p ∷ []) (schedule-append n s (p ∷ []) h (
          m,
          tt,
        )) (omega (arith, length-append s (p ∷ [])))))
        ) [
          | inl each ↦ by_valences s h each
          | inr found ↦ inr found
        ]

    pub critical_or_univalent : IsUnivalent c ⊎ LeadsToCritical
    critical_or_univalent = search_on long [] tt (omega arith)
