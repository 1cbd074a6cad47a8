-- A witness has a plan.
use Rattle.std.proofs.Common.{◌≡◌, ℕ, zero, suc, ◌+◌, ◌<◌, ◌≤◌, ◌⊎◌, inl, inr, List, [], ◌∷◌, ◌++◌, length, refl, subst, arith}
use Rattle.cn_table.specs.TypeTable.{TypeTable, IsTypeTable}
use Rattle.cn_choice.specs.Canonical.{Choice, FitsTable, raw_choice_of}
use Rattle.cn_choice.specs.Discerning.{IsWitness}
use Rattle.cn_choice.specs.OutcomeSets.{InOutcomeSet}
use Rattle.cn_choice.specs.RawChoices.{RawChoice}
use Rattle.cn_choice.specs.declared.team.Team.{Team}
use Rattle.cn_choice.specs.declared.team.Team.TheVariants.{A}
use Rattle.cn_proto.specs.Judgement.{AreListed, AreOutcomeSets}
use Rattle.cn_proto.specs.Plan.{Plan, IsPlan}
use Rattle.cn_proto.proofs.JudgedLists.{AreListed-push, AreListed-row, AreListed-without, AreOutcomeSets-push, pairs_exact}
use Rattle.cn_proto.proofs.PlanLemmas.{plan_from}

-- ---- the pairs with a decidable property

module _ (P : ℕ → ℕ → Type 0) (test : (r q : ℕ) → P r q ⊎ ¬ P r q) (states : ℕ) where
  abbrev HasList : ℕ → ℕ → Type 0
  HasList r q = (pairs : List (ℕ × ℕ)) × AreListed P states r q pairs

  next_pair : (r q : ℕ) → q < states → HasList r q → HasList r (q + 1)
  next_pair r q l h = elim (test r q) [
    | inl holds ↦ (h.0 ++ (r, q) ∷ [], AreListed-push P states r q h.0 h.1 holds l)
    | inr fails ↦ (h.0, AreListed-without P states r q h.0 h.1 fails)
  ]

  row_list : (r k : ℕ) → k ≤ states → HasList r 0 → HasList r k
  row_list r zero l h = h
  row_list r (suc k) l h =
      let e : k + 1 ≡ suc k = omega arith in
      subst (λ (n : ℕ). HasList r n) e (next_pair r k (omega (arith, l)) (row_list r k (omega (arith, l)) h))

  pub pair_list : (r : ℕ) → HasList r 0
  pair_list zero = (
    [],
    record {
      exact = λ x y. (λ h. absurd (omega (arith, h.1)), λ h. elim h.2 [ inl l ↦ absurd (omega (arith, l)) | inr l ↦ absurd (omega (arith, l.1)) ]);
      in_order = λ i j d l u. absurd (omega (arith, u));
    },
  )
  pair_list (suc r) =
      let h = row_list r states (omega arith) (pair_list r) in
      let e : r + 1 ≡ suc r = omega arith in
      subst (λ (n : ℕ). HasList n 0) e (h.0, AreListed-row P states r h.0 h.1)

-- ---- the judgement of each process

module _ (t : TypeTable) (c : RawChoice) (is : IsTypeTable t) (known : c.state < length t.states)
    (test : (j r q : ℕ) → InOutcomeSet t c A j (r, q) ⊎ ¬ InOutcomeSet t c A j (r, q)) where
  judged_lists : (n : ℕ) → (judged : List (List (ℕ × ℕ))) × AreOutcomeSets t c n judged
  judged_lists zero = ([], record { count = refl; pairs = λ j r q l. absurd (omega (arith, l)); in_order = λ j l. absurd (omega (arith, l)) })
  judged_lists (suc n) =
      let before = judged_lists n in
      let here = pair_list (λ r q. InOutcomeSet t c A n (r, q)) (test n) (length t.states) (length t.responses) in
      let exact = pairs_exact t c n (λ r q. InOutcomeSet t c A n (r, q)) (length t.states) (length t.responses) here.0 is known refl refl (λ r q. (λ h. h, λ h. h)) here.1 in
      let e : n + 1 ≡ suc n = omega arith in
      subst (λ (m : ℕ). (judged : List (List (ℕ × ℕ))) × AreOutcomeSets t c m judged) e
      (before.0 ++ here.0 ∷ [], AreOutcomeSets-push t c n before.0 here.0 before.1 exact here.1.in_order)

-- `decided`: a pair is in an outcome set or not
pub witness_plan : ((t : TypeTable) (c : RawChoice) (team : Team) (j : ℕ) (pair : ℕ × ℕ) → InOutcomeSet t c team j pair ⊎ ¬ InOutcomeSet t c team j pair)
    → (t : TypeTable) (c : Choice) → IsTypeTable t → FitsTable t c → IsWitness t (raw_choice_of c) → (p : Plan) × IsPlan p × (p.table ≡ t) × (p.choice ≡ c)
witness_plan decided t c is fits witness =
    let judged = judged_lists t (raw_choice_of c) is fits.fits.state_known (λ j r q. decided t (raw_choice_of c) A j (r, q)) (length c.a + length c.b) in
    (record { table = t; choice = c; judged_pairs = judged.0 }, plan_from t c judged.0 is fits witness judged.1, refl, refl)
