-- How to judge by a view which team began.
use Rattle.std.proofs.Common.{◌≡◌, ◌≢◌, ℕ, ◌<◌, ◌⊎◌, inl, inr, length}
use Rattle.std.proofs.Common.{refl, Option}
use Rattle.std.specs.Prelude.{slice_index}
use Rattle.std.proofs.lemmas.Bool.{cases_eq}
use Rattle.cn_table.specs.TypeTable.{IsClosed, TypeTable}
use Rattle.cn_choice.specs.declared.team.Team.{Team}
use Rattle.cn_choice.specs.declared.team.Team.TheVariants.{A, B}
use Rattle.cn_choice.specs.OutcomeSets.{InOutcomeSet}
use Rattle.cn_choice.specs.RawChoices.{IsRawChoice, RawChoice}
use Rattle.cn_consensus.proofs.Counting.{first_or_all}
use Rattle.cn_unread.proofs.Outcomes.{outcome_known}
use Rattle.cn_unread.specs.Views.{IsViewWitness, view}

-- ---- the judgement by a view

module _ (t : TypeTable) (closed : IsClosed t) (n : ℕ) (c : RawChoice) (is : IsRawChoice t n c)
    (look : ℕ → ℕ → Option ℕ) (w : IsViewWitness t look c)
    (decided : (t : TypeTable) (c : RawChoice) (team : Team) (j : ℕ) (pair : ℕ × ℕ)
    → InOutcomeSet t c team j pair ⊎ ¬ InOutcomeSet t c team j pair) where
  abbrev pub seen_by : ℕ → ℕ → ℕ → ℕ
  seen_by role r q = view t (look (slice_index c.operations role) r) q

  -- some state with this view is in the outcome set of team A with the response
  abbrev Sees : ℕ → ℕ → ℕ → ℕ → Type 0
  Sees role r v q = (seen_by role r q ≡ v) × InOutcomeSet t c A role (r, q)

  sees : (role r v : ℕ) → ((q : ℕ) → q < length t.states → ¬ Sees role r v q)
      ⊎ ((q : ℕ) × Sees role r v q)
  sees role r v = first_or_all (length t.states) (λ q. ¬ Sees role r v q)
      ((q : ℕ) × Sees role r v q) (λ q l. by_view q (cases_eq (seen_by role r q) v)
      (decided t c A role (r, q)))
    where
      by_view : (q : ℕ) → (seen_by role r q ≡ v) ⊎ (seen_by role r q ≢ v)
          → InOutcomeSet t c A role (r, q) ⊎ ¬ InOutcomeSet t c A role (r, q)
          → (¬ Sees role r v q) ⊎ ((q : ℕ) × Sees role r v q)
      by_view q (inl e) (inl h) = inr (q, (e, h))
      by_view q (inl e) (inr m) = inl (λ s. m s.1)
      by_view q (inr m) h = inl (λ s. m s.0)

  judge_from : {X Y : Type 0} → X ⊎ Y → Team
  judge_from (inl h) = B
  judge_from (inr h) = A

  pub judge : ℕ → ℕ → ℕ → Team
  judge role r v = judge_from (sees role r v)

  pub judges : (team : Team) (role r q : ℕ) → InOutcomeSet t c team role (r, q)
      → judge role r (seen_by role r q) ≡ team
  unfolding judge judge_from
  judges team role r q h = by_test team h (sees role r (seen_by role r q))
    where
      by_test : (side : Team) → InOutcomeSet t c side role (r, q)
          → (test : ((p : ℕ) → p < length t.states → ¬ Sees role r (seen_by role r q) p)
          ⊎ ((p : ℕ) × Sees role r (seen_by role r q) p)) → judge_from test ≡ side
      by_test A h (inl none) =
          absurd (none q (outcome_known t closed n c is A role (r, q) h) (refl, h))
      by_test A h (inr some) = refl
      by_test B h (inl none) = refl
      by_test B h (inr some) = absurd (w role r some.0 q some.1.1 h some.1.0)
