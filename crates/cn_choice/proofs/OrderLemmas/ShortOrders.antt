-- Lists of one or two processes.
use Rattle.std.proofs.Common.{◌≡◌, ◌≢◌, ℕ, ◌<◌, inl, inr, [], ◌∷◌, length, Some, refl, subst}
use Rattle.std.specs.Prelude.{slice_get}
use Rattle.cn_table.specs.TypeTable.{TypeTable}
use Rattle.cn_choice.specs.declared.team.Team.{Team}
use Rattle.cn_choice.specs.OutcomeSets.{InOutcomeSet}
use Rattle.cn_choice.specs.RawChoices.{RawChoice}
use Rattle.cn_choice.specs.Moves.{answer_of, next_of}
use Rattle.cn_choice.proofs.OrderLemmas.LastMoves.{last_self, pair_whole}
use Rattle.cn_choice.proofs.OrderLemmas.LastMoves.{Known, known_last, order_from}

pub known_one : (n i : ℕ) → i < n → Known n (i ∷ [])
known_one n i l = known_last n [] i (record { below = λ p m. absurd m; differ = tt }) (λ x m. absurd m) l

pub known_two : (n i j : ℕ) → i < n → j < n → i ≢ j → Known n (i ∷ j ∷ [])
known_two n i j l k apart = known_last n (i ∷ []) j (known_one n i l) (λ x m. elim m [ inl e ↦ subst (λ (y : ℕ). y ≢ j) e apart | inr a ↦ absurd a ]) k

module _ (t : TypeTable) (c : RawChoice) (team : Team) (j : ℕ) (l : j < length c.operations) where
  pub alone_gets : slice_get c.marks j ≡ Some team → InOutcomeSet t c team j (answer_of t c j c.state, next_of t c j c.state)
  alone_gets m = (j ∷ [], order_from (length c.operations) j [] (known_one (length c.operations) j l), (j, refl, m), pair_whole t c j (j ∷ []) _ _ (last_self t c j [] (λ i. absurd i)) refl)

  pub second_gets : (i : ℕ) → i < length c.operations → i ≢ j → slice_get c.marks i ≡ Some team
      → InOutcomeSet t c team j (answer_of t c j (next_of t c i c.state), next_of t c j (next_of t c i c.state))
  second_gets i u apart m = (
    i ∷ j ∷ [],
    order_from (length c.operations) i (j ∷ []) (known_two (length c.operations) i j u l apart),
    (i, refl, m),
    pair_whole t c j (i ∷ j ∷ []) _ _ (last_self t c j (i ∷ []) (λ h. elim h [ inl e ↦ apart e | inr a ↦ absurd a ])) refl,
  )
