-- Two processes with one operation.
use Rattle.std.proofs.Common.{ℕ, zero, suc, ◌≡◌, ◌≢◌, ◌↔◌, ◌<◌, ◌⊎◌, inl, inr, List, [], ◌∷◌, slice_get, Some, refl, sym, ap, ◌∙◌, subst, arith}
use Rattle.cn_table.specs.TypeTable.{TypeTable, transition}
use Rattle.cn_choice.proofs.ListLemmas.Members.{AllPairs-from_Pairs, IsIn}
use Rattle.cn_proto.specs.Order.{answers}
use Rattle.cn_stocks.proofs.Times.{same_or}
use Rattle.cn_meetings.specs.Division as division
use Rattle.cn_meetings.specs.Meeting.{Meeting, act, see}
use Rattle.cn_meetings.specs.Witness.{Has, IsOrderOf}
use Rattle.cn_meetings.proofs.Orders.{order_apart, order_tail}
use Rattle.cn_divisions.specs.Divisions.{first}
use Rattle.cn_divisions.proofs.Links.{from_first, got_in, has_first}

module _ (t : TypeTable) (M : Meeting) (a : ℕ) (first_is : M.operation 0 ≡ a) (second_is : M.operation 1 ≡ a) where
  -- the response to the first of them, and to the second
  abbrev pub response_1 : ℕ
  response_1 = (transition t a M.start).0

  abbrev pub response_2 : ℕ
  response_2 = (transition t a (transition t a M.start).1).0

  op_is : (p : ℕ) → p < 2 → M.operation p ≡ a
  op_is zero l = first_is
  op_is (suc zero) l = second_is
  op_is (suc (suc p)) l = absurd (omega (arith, l))

  response_in : (p : ℕ) (behind : List ℕ) → IsOrderOf (first 2) (p ∷ behind) → (k to r : ℕ) → slice_get (p ∷ behind) k ≡ Some to → slice_get (answers (act t M) M.start (p ∷ behind)) k ≡ Some r
      → ((to ≡ p) × (r ≡ response_1)) ⊎ ((to ≢ p) × (r ≡ response_2))
  response_in p behind is zero to r e f =
      let same : p ≡ to = cc in
      let resp : (transition t (M.operation p) M.start).0 ≡ r = cc in
      inl (sym same, sym resp ∙ ap (λ (o : ℕ). (transition t o M.start).0) (op_is p (from_first 2 p (is.members 0 p refl))))
  response_in p [] is (suc k) to r e f = absurd cc
  response_in p (x ∷ behind) is (suc zero) to r e f =
      let same : x ≡ to = cc in
      let resp : (transition t (M.operation x) (transition t (M.operation p) M.start).1).0 ≡ r = cc in
      let apart = order_apart (first 2) p (x ∷ behind) is x (inl refl) in
      inr (
        λ g. apart (sym g ∙ sym same),
        sym resp ∙ (ap (λ (o : ℕ). (transition t o (transition t (M.operation p) M.start).1).0) (op_is x (from_first 2 x (is.members 1 x refl)))
            ∙ ap (λ (o : ℕ). (transition t a (transition t o M.start).1).0) (op_is p (from_first 2 p (is.members 0 p refl)))),
      )
  response_in p (x ∷ behind) is (suc (suc k)) to r e f =
      let tail = order_tail (first 2) p (x ∷ behind) is in
      let there : IsIn to behind = got_in behind k to e in
      let pq = order_apart (first 2) p (x ∷ behind) is x (inl refl) in
      let pt = order_apart (first 2) p (x ∷ behind) is to (inr there) in
      let xt = order_apart (first 2) x behind tail to there in
      let l = from_first 2 p (is.members 0 p refl) in
      let m = from_first 2 x (is.members 1 x refl) in
      let n = from_first 2 to (is.members (suc (suc k)) to e) in
      absurd (omega (arith, pq, pt, xt, l, m, n))

  pub twins_same : (p q : ℕ) → division.AreJoined t M (first 2) p q → p ≢ q → response_1 ≡ response_2
  twins_same p q j ne =
      let one = j.shown_p in
      let other = j.shown_q in
      let l = from_first 2 p (one.is_order.members 0 p refl) in
      let m = from_first 2 q (other.is_order.members 0 q refl) in
      let n = from_first 2 j.to (one.is_order.members one.answered.0 j.to one.answered.1) in
      elim (response_in p j.behind_p one.is_order one.answered.0 j.to j.response one.answered.1 one.answered.2) [
        | inl x ↦ elim (response_in q j.behind_q other.is_order other.answered.0 j.to j.response other.answered.1 other.answered.2) [
          | inl y ↦ absurd (ne (sym x.0 ∙ y.0))
          | inr y ↦ sym x.1 ∙ y.1
        ]
        | inr x ↦ elim (response_in q j.behind_q other.is_order other.answered.0 j.to j.response other.answered.1 other.answered.2) [
          | inl y ↦ sym y.1 ∙ x.1
          | inr y ↦ (let u = x.0 in let v = y.0 in absurd (omega (arith, l, m, n, ne, u, v)))
        ]
      ]

  pair_order : (p q : ℕ) → p ≢ q → p < 2 → q < 2 → IsOrderOf (first 2) (p ∷ q ∷ [])
  pair_order p q ne l m = record { distinct = AllPairs-from_Pairs (λ (x : ℕ) y. x ≢ y) (p ∷ q ∷ []) ((ne, tt), (tt, tt)); members = each }
    where
      each : (k r : ℕ) → slice_get (p ∷ q ∷ []) k ≡ Some r → Has (first 2) r
      each zero r e = let same : p ≡ r = cc in subst (Has (first 2)) same (has_first 2 p l)
      each (suc zero) r e = let same : q ≡ r = cc in subst (Has (first 2)) same (has_first 2 q m)
      each (suc (suc k)) r e = absurd cc

  twins_joined : response_1 ≡ response_2 → (p q : ℕ) → p ≢ q → p < 2 → q < 2 → division.AreJoined t M (first 2) p q
  twins_joined e p q ne l m =
      let last : ℕ = (transition t a (transition t a M.start).1).1 in record {
        behind_p = q ∷ [];
        behind_q = p ∷ [];
        to = q;
        response = response_2;
        saw = see t M q last;
        shown_p = record {
          is_order = pair_order p q ne l m;
          answered = (1, refl, rw (op_is p l, op_is q m) refl);
          last_state = rw (op_is p l, op_is q m) refl;
        };
        shown_q = record {
          is_order = pair_order q p (λ u. ne (sym u)) m l;
          answered = (0, refl, ap Some (ap (λ (o : ℕ). (transition t o M.start).0) (op_is q m) ∙ e));
          last_state = rw (op_is p l, op_is q m) refl;
        };
      }

  along : (p q : ℕ) → division.AreConnected t M (first 2) p q → (p ≡ q) ⊎ (response_1 ≡ response_2)
  along p q (division.AreConnected.Itself x) = inl refl
  along p q (division.AreConnected.ByWayOf x y z j b) = elim (same_or x y) [
    | inl e ↦ elim (along y z b) [ inl f ↦ inl (e ∙ f) | inr r ↦ inr r ]
    | inr n ↦ inr (twins_same x y j n)
  ]

  -- they are in one team exactly if the second one gets the response of the first one
  pub twins_connected : (p q : ℕ) → p < 2 → q < 2 → division.AreConnected t M (first 2) p q ↔ ((p ≡ q) ⊎ (response_1 ≡ response_2))
  twins_connected p q l m = (
    along p q,
    λ h. elim (same_or p q) [
      | inl e ↦ subst (division.AreConnected t M (first 2) p) e (division.AreConnected.Itself p)
      | inr n ↦ elim h [
        | inl e ↦ absurd (n e)
        | inr r ↦ division.AreConnected.ByWayOf p q q (twins_joined r p q n l m) (division.AreConnected.Itself q)
      ]
    ],
  )
