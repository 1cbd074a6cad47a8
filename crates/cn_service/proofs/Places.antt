-- Places of lists that grow or shrink at the end.
use Rattle.std.proofs.Common.{◌≡◌, ◌⊎◌, inl, inr, ℕ, ◌<◌, List, [], ◌∷◌, ◌++◌, Some, Vec, length, get_or, refl, sym, ap, ◌∙◌, subst, arith}
use Rattle.std.proofs.lemmas.Option.{slice_get_read, slice_get_within}
use Rattle.std.specs.Global.{Global}
use Rattle.std.specs.List.{slice_get}
use Rattle.cn_table.proofs.Lists.{get_front, get_push_cases, get_push_new}
use Rattle.cn_hall.specs.Seats.{HallId, SeatState}
use Rattle.cn_hall.specs.declared.call.Go.{Go}
use Rattle.cn_service.specs.Workers.{AllGatesWereAsked, GateWasAsked, HasRoom, HasWorked, HaveAllWorked, HaveRoom, MayAllWork, MayWork}
use Rattle.cn_service.specs.declared.workers.ProcessHistory.{ProcessHistory}

-- a list at the index that is the length of another
pub read_at : {A : Type 0} (cs : List A) (i j : ℕ) (x : A) → i ≡ j → j < length cs → x ≡ get_or cs i x → slice_get cs j ≡ Some x
read_at cs i j x e less is = subst (λ k. slice_get cs k ≡ Some x) e (slice_get_read cs (length cs) i x refl (omega (arith, e, less)) is)

module _ (calls : List (Vec ℕ Global)) where
  module _ (hall : HallId) (seats more : List SeatState) (s : SeatState) (is : more ≡ seats ++ s ∷ []) (may : MayAllWork hall calls more) where
    pub may_all_front : MayAllWork hall calls seats
    may_all_front p c t got at = may p c t got (ap (λ l. slice_get l p) is ∙ get_front seats (s ∷ []) p t at)

    pub may_last : (c : Vec ℕ Global) → slice_get calls (length seats) ≡ Some c → MayWork hall c.items s
    may_last c got = may (length seats) c s got (ap (λ l. slice_get l (length seats)) is ∙ get_push_new seats s)

  module _ (rooms more : List ProcessHistory) (w : ProcessHistory) (is : more ≡ rooms ++ w ∷ []) (room : HaveRoom calls more) where
    pub room_front : HaveRoom calls rooms
    room_front p c v got at = room p c v got (ap (λ l. slice_get l p) is ∙ get_front rooms (w ∷ []) p v at)

    pub room_last : (n : ℕ) → n ≡ length rooms → (c : Vec ℕ Global) → slice_get calls n ≡ Some c → HasRoom c.items w
    room_last n e c got = room n c w got (ap (λ l. slice_get l n) is ∙ ap (slice_get (rooms ++ w ∷ [])) e ∙ get_push_new rooms w)

  module _ (before after : List SeatState) (worked : List ProcessHistory) (s t : SeatState) (w : ProcessHistory) (count : length after ≡ length before) (also : length worked ≡ length before) where
    pub one_more_worked : HaveAllWorked calls before after worked → ((c : Vec ℕ Global) → slice_get calls (length before) ≡ Some c → HasWorked c.items s t w.replies.items w.fault)
        → HaveAllWorked calls (before ++ s ∷ []) (after ++ t ∷ []) (worked ++ w ∷ [])
    one_more_worked all last p c x y z got at_x at_y at_z = by_place (get_push_cases before s p x at_x) (get_push_cases after t p y at_y) (get_push_cases worked w p z at_z)
      where
        by_place : (slice_get before p ≡ Some x) ⊎ ((p ≡ length before) × (s ≡ x)) → (slice_get after p ≡ Some y) ⊎ ((p ≡ length after) × (t ≡ y))
            → (slice_get worked p ≡ Some z) ⊎ ((p ≡ length worked) × (w ≡ z))
            → HasWorked c.items x y z.replies.items z.fault
        by_place (inl a) (inl b) (inl d) = all p c x y z got a b d
        by_place (inl a) (inr b) d = absurd (omega (arith, slice_get_within before p x a, b.0, count))
        by_place (inl a) b (inr d) = absurd (omega (arith, slice_get_within before p x a, d.0, also))
        by_place (inr a) (inl b) d = absurd (omega (arith, slice_get_within after p y b, a.0, count))
        by_place (inr a) b (inl d) = absurd (omega (arith, slice_get_within worked p z d, a.0, also))
        by_place (inr a) (inr b) (inr d) =
            subst (λ (u : SeatState × SeatState × ProcessHistory). HasWorked c.items u.0 u.1 u.2.replies.items u.2.fault) (λ i. (a.1 i, b.1 i, d.1 i)) (last c (ap (slice_get calls) (sym a.0) ∙ got))

  -- and room for the replies to one more list of calls
  pub room_pushed : (rooms : List ProcessHistory) (w : ProcessHistory) (d : Vec ℕ Global) → HaveRoom calls rooms → slice_get calls (length rooms) ≡ Some d → HasRoom d.items w
      → HaveRoom calls (rooms ++ w ∷ [])
  room_pushed rooms w d room there has p c v got at = by_place (get_push_cases rooms w p v at)
    where
      by_place : (slice_get rooms p ≡ Some v) ⊎ ((p ≡ length rooms) × (w ≡ v)) → HasRoom c.items v
      by_place (inl h) = room p c v got h
      by_place (inr h) = let same : Some d ≡ Some c = sym there ∙ ap (slice_get calls) (sym h.0) ∙ got in let is : d ≡ c = cc in
          subst (λ (z : Vec ℕ Global × ProcessHistory). HasRoom z.0.items z.1) (λ i. (is i, h.1 i)) has

-- the gate of one more seat was asked
module _ {G : Type 0} (asks : G → SeatState → ℕ → G → Type 0) (says : G → Go) (before after : List SeatState) (gates : List G) (worked : List ProcessHistory) (s t : SeatState)
    (g : G) (w : ProcessHistory)
    (count : length after ≡ length before) (also : length gates ≡ length before) (more : length worked ≡ length before) where
  pub one_more_asked : AllGatesWereAsked asks says before gates after worked → GateWasAsked asks says s g t w.fault
      → AllGatesWereAsked asks says (before ++ s ∷ []) (gates ++ g ∷ []) (after ++ t ∷ []) (worked ++ w ∷ [])
  one_more_asked all last p x y z v at_x at_z at_y at_v = by_place (get_push_cases before s p x at_x) (get_push_cases after t p y at_y) (get_push_cases gates g p z at_z)
      (get_push_cases worked w p v at_v)
    where
      by_place : (slice_get before p ≡ Some x) ⊎ ((p ≡ length before) × (s ≡ x)) → (slice_get after p ≡ Some y) ⊎ ((p ≡ length after) × (t ≡ y))
          → (slice_get gates p ≡ Some z) ⊎ ((p ≡ length gates) × (g ≡ z))
          → (slice_get worked p ≡ Some v) ⊎ ((p ≡ length worked) × (w ≡ v))
          → GateWasAsked asks says x z y v.fault
      by_place (inl a) (inl b) (inl d) (inl e) = all p x y z v a d b e
      by_place (inl a) (inr b) d e = absurd (omega (arith, slice_get_within before p x a, b.0, count))
      by_place (inl a) b (inr d) e = absurd (omega (arith, slice_get_within before p x a, d.0, also))
      by_place (inl a) b d (inr e) = absurd (omega (arith, slice_get_within before p x a, e.0, more))
      by_place (inr a) (inl b) d e = absurd (omega (arith, slice_get_within after p y b, a.0, count))
      by_place (inr a) b (inl d) e = absurd (omega (arith, slice_get_within gates p z d, a.0, also))
      by_place (inr a) b d (inl e) = absurd (omega (arith, slice_get_within worked p v e, a.0, more))
      by_place (inr a) (inr b) (inr d) (inr e) =
          subst (λ (u : SeatState × SeatState × G × ProcessHistory). GateWasAsked asks says u.0 u.2 u.1 u.3.fault) (λ i. (a.1 i, b.1 i, d.1 i, e.1 i)) last
