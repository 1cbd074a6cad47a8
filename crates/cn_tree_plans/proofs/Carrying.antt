-- What a process is shown at a meeting, where the processes of another meeting do the same under
-- other names.
use Rattle.std.proofs.Common.{ℕ, zero, suc, ◌≡◌, ◌≢◌, Bool, List, [], ◌∷◌, map, slice_get, Some, refl, sym, ap, ◌∙◌, subst, inl, inr}
use Rattle.cn_table.specs.TypeTable.{TypeTable, transition}
use Rattle.cn_choice.proofs.ListLemmas.Arrangements.{Differ}
use Rattle.cn_choice.proofs.ListLemmas.Members.{AllPairs-from_Pairs, IsIn, IsIn-map_from, each_from}
use Rattle.cn_proto.specs.Order.{after, answers}
use Rattle.cn_meetings.specs.Meeting.{Meeting, act, see}
use Rattle.cn_meetings.specs.Witness.{BeginsIn, Has, IsOrderOf, IsShown}
use Rattle.cn_meetings.proofs.Orders.{order_apart, order_tail}

-- the members of others have these roles among the processes
pub record AreRoles (t : TypeTable) (M N : Meeting) (processes others : ℕ → Bool) (role : ℕ → ℕ) : Type 0 where
  pub inside : (p : ℕ) → Has others p → Has processes (role p)
  pub apart : (p q : ℕ) → Has others p → Has others q → role p ≡ role q → p ≡ q
  pub start : N.start ≡ M.start
  pub operation : (p : ℕ) → Has others p → N.operation p ≡ M.operation (role p)
  pub sight : (p q : ℕ) → Has others p → see t N p q ≡ see t M (role p) q

module _ (t : TypeTable) (M N : Meeting) (processes others : ℕ → Bool) (role : ℕ → ℕ) (roles : AreRoles t M N processes others role) where
  get_map : (order : List ℕ) (k p : ℕ) → slice_get order k ≡ Some p → slice_get (map role order) k ≡ Some (role p)
  get_map [] k p e = absurd cc
  get_map (x ∷ order) zero p e = let same : x ≡ p = cc in ap (λ z. Some (role z)) same
  get_map (x ∷ order) (suc k) p e = get_map order k p e

  get_from : (order : List ℕ) (k x : ℕ) → slice_get (map role order) k ≡ Some x → (p : ℕ) × (slice_get order k ≡ Some p) × (role p ≡ x)
  get_from [] k x e = absurd cc
  get_from (p ∷ order) zero x e = (p, refl, cc)
  get_from (p ∷ order) (suc k) x e = get_from order k x e

  same_after : (order : List ℕ) (q : ℕ) → IsOrderOf others order → after (act t N) q order ≡ after (act t M) q (map role order)
  same_after [] q is = refl
  same_after (p ∷ order) q is =
      same_after order (act t N p q).1 (order_tail others p order is)
      ∙ ap (λ o. after (act t M) (transition t o q).1 (map role order)) (roles.operation p (is.members 0 p refl))

  same_answers : (order : List ℕ) (q : ℕ) → IsOrderOf others order → answers (act t N) q order ≡ answers (act t M) q (map role order)
  same_answers [] q is = refl
  same_answers (p ∷ order) q is =
      ap (λ r. (act t N p q).0 ∷ r) (same_answers order (act t N p q).1 (order_tail others p order is))
      ∙ ap (λ o. (transition t o q).0 ∷ answers (act t M) (transition t o q).1 (map role order)) (roles.operation p (is.members 0 p refl))

  differ_map : (order : List ℕ) → IsOrderOf others order → Differ (map role order)
  differ_map [] is = tt
  differ_map (p ∷ order) is = (
    each_from (λ y. role p ≢ y) (map role order) (λ y i. (let from = IsIn-map_from role y order i in
        λ e. order_apart others p order is from.0 from.2 (roles.apart p from.0 (is.members 0 p refl) (member order (order_tail others p order is) from.0 from.2) (e ∙ sym from.1)))),
    differ_map order (order_tail others p order is),
  )
    where
      member : (order : List ℕ) → IsOrderOf others order → (q : ℕ) → IsIn q order → Has others q
      member [] is q i = absurd i
      member (x ∷ order) is q (inl e) = subst (Has others) e (is.members 0 x refl)
      member (x ∷ order) is q (inr i) = member order (order_tail others x order is) q i

  mapped : (order : List ℕ) → IsOrderOf others order → IsOrderOf processes (map role order)
  mapped order is = record {
    distinct = AllPairs-from_Pairs (λ x y. x ≢ y) (map role order) (differ_map order is);
    members = λ k x e. (let from = get_from order k x e in subst (Has processes) from.2 (roles.inside from.0 (is.members k from.0 from.1)));
  }

  pub shown_carried : (order : List ℕ) (p response saw : ℕ) → IsShown t N others order p response saw → IsShown t M processes (map role order) (role p) response saw
  shown_carried order p response saw shown =
      let comes : Has others p = shown.is_order.members shown.answered.0 p shown.answered.1 in
      let ends : after (act t N) N.start order ≡ after (act t M) M.start (map role order) =
      same_after order N.start shown.is_order ∙ ap (λ q. after (act t M) q (map role order)) roles.start in
      let told : answers (act t N) N.start order ≡ answers (act t M) M.start (map role order) =
      same_answers order N.start shown.is_order ∙ ap (λ q. answers (act t M) q (map role order)) roles.start in
      record {
        is_order = mapped order shown.is_order;
        answered = (shown.answered.0, get_map order shown.answered.0 p shown.answered.1, ap (λ rs. slice_get rs shown.answered.0) (sym told) ∙ shown.answered.2);
        last_state = sym (roles.sight p (after (act t M) M.start (map role order)) comes) ∙ (ap (λ q. see t N p q) (sym ends) ∙ shown.last_state);
      }

  pub begins_carried : (team team' : ℕ → ℕ) (g h : ℕ) (order : List ℕ) → IsOrderOf others order → ((p : ℕ) → Has others p → team p ≡ g → team' (role p) ≡ h) → BeginsIn team g order → BeginsIn team' h (map role order)
  begins_carried team team' g h [] is same b = b
  begins_carried team team' g h (p ∷ order) is same b = same p (is.members 0 p refl) b
