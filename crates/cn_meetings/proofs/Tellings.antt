-- What the orders of a meeting tell, as a list: the first process, who is shown something, the
-- response, and what is seen of the last state.
use Rattle.std.proofs.Common.{ℕ, zero, suc, ◌≡◌, ◌<◌, ◌⊎◌, Bool, List, [], ◌∷◌, length, slice_get, Some, refl, ap, arith, inl, inr}
use Rattle.std.specs.List.{flat_map}
use Rattle.std.proofs.lemmas.Bool.{cases_eq}
use Rattle.cn_table.specs.TypeTable.{TypeTable}
use Rattle.cn_proto.specs.Order.{after, answers, IsAnswered}
use Rattle.cn_choice.proofs.ListLemmas.Members.{IsIn, IsIn-flat_map_any, IsIn-flat_map_any_from}
use Rattle.cn_meetings.specs.Meeting.{Meeting, act, see}
use Rattle.cn_meetings.specs.Witness.{Has, IsOrderOf, IsShown}
use Rattle.cn_meetings.proofs.Orders.{in_order, order_in, orders_of}

abbrev pub Telling : Type 0
Telling = ℕ × ℕ × ℕ × ℕ

-- the same is told to the same process
abbrev pub IsSame : Telling → Telling → Type 0
IsSame x y = (x.1 ≡ y.1) × (x.2 ≡ y.2) × (x.3 ≡ y.3)

abbrev pub decide_same : (x y : Telling) → IsSame x y ⊎ ¬ IsSame x y
decide_same x y = elim (cases_eq x.1 y.1) [
  | inl a ↦ elim (cases_eq x.2 y.2) [
    | inl b ↦ elim (cases_eq x.3 y.3) [ inl c ↦ inl (a, b, c) | inr n ↦ inr (λ h. n h.2) ]
    | inr n ↦ inr (λ h. n h.1)
  ]
  | inr n ↦ inr (λ h. n h.0)
]

abbrev pub if_so : {A X : Type 0} → A ⊎ ¬ A → X → X → X
if_so (inl a) x y = x
if_so (inr n) x y = y

-- what is told along an order that process g begins
abbrev pub told_along : (ℕ → ℕ → ℕ × ℕ) → (ℕ → ℕ) → ℕ → ℕ → List ℕ → List Telling
told_along move seen g q [] = []
told_along move seen g q (p ∷ order) = (g, p, (move p q).0, seen p) ∷ told_along move seen g (move p q).1 order

along_in : (move : ℕ → ℕ → ℕ × ℕ) (seen : ℕ → ℕ) (g q : ℕ) (order : List ℕ) (p r k : ℕ) → slice_get order k ≡ Some p → slice_get (answers move q order) k ≡ Some r
    → IsIn (g, p, r, seen p) (told_along move seen g q order)
along_in move seen g q [] p r k e f = absurd cc
along_in move seen g q (x ∷ order) p r zero e f =
    let same : x ≡ p = cc in let resp : (move x q).0 ≡ r = cc in
    inl (λ d. (g, same d, resp d, seen (same d)))
along_in move seen g q (x ∷ order) p r (suc k) e f = inr (along_in move seen g (move x q).1 order p r k e f)

-- a telling is of someone in the order
pub record IsAlong (move : ℕ → ℕ → ℕ × ℕ) (seen : ℕ → ℕ) (g q : ℕ) (order : List ℕ) (x : Telling) : Type 0 where
  pub begins : x.0 ≡ g
  pub answered : IsAnswered move q order x.1 x.2
  pub sees : seen x.1 ≡ x.3

in_along : (move : ℕ → ℕ → ℕ × ℕ) (seen : ℕ → ℕ) (g q : ℕ) (order : List ℕ) (x : Telling) → IsIn x (told_along move seen g q order) → IsAlong move seen g q order x
in_along move seen g q [] x h = absurd h
in_along move seen g q (p ∷ order) x (inl e) = rw (← e) (record { begins = refl; answered = (0, refl, refl); sees = refl })
in_along move seen g q (p ∷ order) x (inr i) =
    let rest = in_along move seen g (move p q).1 order x i in
    record { begins = rest.begins; answered = (suc rest.answered.0, rest.answered.1, rest.answered.2); sees = rest.sees }

-- a telling comes of an order that its first process begins
pub record IsTold (t : TypeTable) (M : Meeting) (processes : ℕ → Bool) (x : Telling) : Type 0 where
  pub behind : List ℕ
  pub shown : IsShown t M processes (x.0 ∷ behind) x.1 x.2 x.3

module _ (t : TypeTable) (M : Meeting) (processes : ℕ → Bool) (n : ℕ) where
  abbrev told_by : List ℕ → List Telling
  told_by [] = []
  told_by (p ∷ order) = told_along (act t M) (λ j. see t M j (after (act t M) M.start (p ∷ order))) p M.start (p ∷ order)

  abbrev pub tellings : List Telling
  tellings = flat_map told_by (orders_of processes n)

  pub telling_in : ((p : ℕ) → Has processes p → p < n) → (g : ℕ) (order : List ℕ) (p response saw : ℕ) → IsShown t M processes (g ∷ order) p response saw → IsIn (g, p, response, saw) tellings
  telling_in few g order p response saw shown =
      let i : IsIn (g, p, response, see t M p (after (act t M) M.start (g ∷ order))) (told_by (g ∷ order)) =
      along_in (act t M) (λ j. see t M j (after (act t M) M.start (g ∷ order))) g M.start (g ∷ order) p response shown.answered.0 shown.answered.1 shown.answered.2 in
      rw (← shown.last_state) (IsIn-flat_map_any told_by (g, p, response, see t M p (after (act t M) M.start (g ∷ order))) (g ∷ order) (orders_of processes n)
      (order_in processes n few (g ∷ order) shown.is_order (λ e. absurd (omega (arith, ap length e)))) i)

  pub in_tellings : (x : Telling) → IsIn x tellings → IsTold t M processes x
  in_tellings x i =
      let from = IsIn-flat_map_any_from told_by x (orders_of processes n) i in
      go from.0 (in_order processes n from.0 from.1) from.2
    where
      go : (order : List ℕ) → IsOrderOf processes order → IsIn x (told_by order) → IsTold t M processes x
      go [] is h = absurd h
      go (p ∷ order) is h =
          let a = in_along (act t M) (λ j. see t M j (after (act t M) M.start (p ∷ order))) p M.start (p ∷ order) x h in
          record { behind = order; shown = rw a.begins (record { is_order = is; answered = a.answered; last_state = a.sees }) }
