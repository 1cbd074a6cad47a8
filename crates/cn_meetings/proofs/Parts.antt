-- Operations that part are told for good.
use Rattle.std.proofs.Common.{ℕ, zero, suc, ◌≡◌, ◌<◌, Bool, true, List, [], ◌∷◌, slice_get, Some, refl, sym, ◌∙◌}
use Rattle.cn_table.specs.TypeTable.{TypeTable}
use Rattle.cn_proto.specs.Order.{after, answers}
use Rattle.cn_meetings.specs.Meeting.{act, sees}
use Rattle.cn_meetings.specs.Parting.{ArePart, Parting, parting_judge, parting_meeting}
use Rattle.cn_meetings.specs.Witness.{Has, JudgesRight}

module _ (t : TypeTable) (k : ℕ) (w : Parting) (part : ArePart t k w) (team : ℕ → ℕ) where
  abbrev move : ℕ → ℕ → ℕ × ℕ
  move = act t (parting_meeting w team)

  abbrev AreFew : List ℕ → Type 0
  AreFew order = (i p : ℕ) → slice_get order i ≡ Some p → team p < k

  marked_on : (order : List ℕ) (q : ℕ) → AreFew order → w.marked q ≡ true → (w.marked (after move q order) ≡ true) × (w.side (after move q order) ≡ w.side q)
  marked_on [] q few m = (m, refl)
  marked_on (p ∷ order) q few m =
      let next = part.stays (team p) q (few 0 p refl) m in
      let rest = marked_on order (move p q).1 (λ i. few (suc i)) next.0 in
      (rest.0, rest.1 ∙ next.1)

  -- each later process judges by a marked state
  later : (order : List ℕ) (q : ℕ) → AreFew order → w.marked q ≡ true → (last : ℕ) → w.marked last ≡ true → w.side last ≡ w.side q → (i p response : ℕ)
      → slice_get order i ≡ Some p → slice_get (answers move q order) i ≡ Some response → w.judge (team p) response (sees t w.sight last) ≡ w.side last
  later [] q few m last ml e i p response a b = absurd cc
  later (x ∷ order) q few m last ml e zero p response a b =
      let same : x ≡ p = cc in let resp : (move x q).0 ≡ response = cc in
      rw (← same, ← resp) (part.later_judges (team x) q last (few 0 x refl) m ml (sym e))
  later (x ∷ order) q few m last ml e (suc i) p response a b =
      let next = part.stays (team x) q (few 0 x refl) m in
      later order (move x q).1 (λ j. few (suc j)) next.0 last ml (e ∙ sym next.1) i p response a b

  pub parting : (processes : ℕ → Bool) → ((p : ℕ) → Has processes p → team p < k) → JudgesRight t (parting_meeting w team) processes team (parting_judge w team)
  parting processes few g p response saw [] shown begins = elim begins [ ]
  parting processes few g p response saw (x ∷ order) shown begins =
      let known : AreFew (x ∷ order) = λ i q e. few q (shown.is_order.members i q e) in
      let first = part.begins (team x) (known 0 x refl) in
      let last : ℕ = after move (move x w.start).1 order in
      let on = marked_on order (move x w.start).1 (λ i. known (suc i)) first.0 in
      let side : w.side last ≡ g = on.1 ∙ (first.1 ∙ begins) in
      rw (← shown.last_state) (go shown.answered.0 shown.answered.1 shown.answered.2 known first last on side)
    where
      go : (i : ℕ) → slice_get (x ∷ order) i ≡ Some p → slice_get (answers move w.start (x ∷ order)) i ≡ Some response → AreFew (x ∷ order)
          → (w.marked (move x w.start).1 ≡ true) × (w.side (move x w.start).1 ≡ team x) → (last : ℕ) → (w.marked last ≡ true) × (w.side last ≡ w.side (move x w.start).1) → w.side last ≡ g
          → w.judge (team p) response (sees t w.sight last) ≡ g
      go zero a b known first last on side =
          let same : x ≡ p = cc in let resp : (move x w.start).0 ≡ response = cc in
          rw (← same, ← resp) (part.first_judges (team x) last (known 0 x refl) on.0 (on.1 ∙ first.1) ∙ begins)
      go (suc i) a b known first last on side =
          later order (move x w.start).1 (λ j. known (suc j)) first.0 last on.0 on.1 i p response a b ∙ side
