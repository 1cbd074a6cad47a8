-- States that orders of one or two processes leave.
use Rattle.std.proofs.Common.{◌≡◌, ◌≢◌, ℕ, ◌<◌, ◌⊎◌, ◌↔◌, inl, inr, [], ◌∷◌, length, Some, refl, sym, subst}
use Rattle.std.specs.Prelude.{slice_get, IsBitSet}
use Rattle.cn_table.specs.TypeTable.{TypeTable}
use Rattle.cn_choice.specs.declared.team.Team.{Team}
use Rattle.cn_choice.specs.Moves.{next_of}
use Rattle.cn_choice.specs.RawChoices.{RawChoice}
use Rattle.cn_choice.proofs.OrderLemmas.ShortOrders.{known_one, known_two}
use Rattle.cn_choice.proofs.OrderLemmas.LastMoves.{order_from}
use Rattle.cn_outcomes.specs.LeftStates.{LeavesIn}
use Rattle.cn_recover.specs.StatesApart.{AreLeft}

module _ (t : TypeTable) (c : RawChoice) (team : Team) where
  pub alone_leaves : (i : ℕ) → i < length c.operations → slice_get c.marks i ≡ Some team → LeavesIn t c team (next_of t c i c.state)
  alone_leaves i l m = (i ∷ [], order_from (length c.operations) i [] (known_one (length c.operations) i l), (i, refl, m), refl)

  pub second_leaves : (i j : ℕ) → i < length c.operations → j < length c.operations → i ≢ j → slice_get c.marks i ≡ Some team → LeavesIn t c team (next_of t c j (next_of t c i c.state))
  second_leaves i j l u apart m = (i ∷ j ∷ [], order_from (length c.operations) i (j ∷ []) (known_two (length c.operations) i j l u apart), (i, refl, m), refl)

  -- one state more
  pub left_more : (set more state : ℕ) → AreLeft t c team set → LeavesIn t c team state → ((q : ℕ) → IsBitSet more q ↔ (IsBitSet set q ⊎ (q ≡ state))) → AreLeft t c team more
  left_more set more state h l m q s = elim ((m q).0 s) [ inl a ↦ h q a | inr e ↦ subst (LeavesIn t c team) (sym e) l ]
