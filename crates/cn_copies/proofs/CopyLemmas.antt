-- Copies tell nothing.
use Rattle.std.proofs.Common.{◌↔◌, ◌⊎◌, ℕ, zero, suc, ◌<◌, ◌≤◌, ◌∙◌, inl, inr, List, length, get_or, refl, sym, subst, arith, All}
use Rattle.std.specs.Prelude.{slice_index_or}
use Rattle.std.proofs.lemmas.List.{length-map}
use Rattle.cn_table.specs.Restriction.{with_operations}
use Rattle.cn_table.specs.TypeTable.{IsClosed, Row, TypeTable, no_row}
use Rattle.cn_choice.specs.Discerning.{IsDiscerning}
use Rattle.cn_choice.proofs.ListLemmas.Members.{IsIn-at, IsIn-from_Contains, each_at}
use Rattle.std.proofs.lemmas.List.Elements.{recursion_from_All}
use Rattle.cn_copies.specs.Copies.{AreCopies, HasCopies}
use Rattle.cn_copies.proofs.Carrying.{discerning_carried}
use Rattle.cn_copies.proofs.Picked.{picked_step, place, place_at}

less_or_not : (o n : ℕ) → (o < n) ⊎ (n ≤ o)
less_or_not o zero = inr (omega arith)
less_or_not zero (suc n) = inl (omega arith)
less_or_not (suc o) (suc n) = elim (less_or_not o n) [ inl l ↦ inl (omega (arith, l)) | inr u ↦ inr (omega (arith, u)) ]

module _ (t : TypeTable) (list : List ℕ) (closed : IsClosed t) (known : All (λ o. o < length t.operations) list) (has : HasCopies t list) where
  abbrev pick : ℕ → Row
  pick o = slice_index_or t.operations o no_row

  -- where its copy stands in the list
  abbrev copy_place : (o : ℕ) → (o < length t.operations) ⊎ (length t.operations ≤ o) → ℕ
  copy_place o (inl l) = place (has o l).0 list
  copy_place o (inr u) = 0

  place_right : (o : ℕ) (d : (o < length t.operations) ⊎ (length t.operations ≤ o)) → o < length t.operations
      → (copy_place o d < length list) × AreCopies t o (get_or list (copy_place o d) 0)
  place_right o (inl l) k =
      let r = has o l in
      let at = place_at r.0 list (IsIn-from_Contains r.0 list r.1) in
      (at.0, subst (AreCopies t o) (sym at.1) r.2)
  place_right o (inr u) k = absurd (omega (arith, u, k))

  to_list : (n : ℕ) → IsDiscerning t n → IsDiscerning (with_operations t list) n
  to_list = discerning_carried (λ q. q < length t.states) (λ o. copy_place o (less_or_not o (length t.operations))) t (with_operations t list) (record {
    states = refl;
    inside = λ o l. let r = place_right o (less_or_not o (length t.operations)) l in omega (arith, r.0, length-map list pick);
    known = λ q l. l;
    onward = λ o q l kq. closed o q l kq;
    step = λ o q l kq. let r = place_right o (less_or_not o (length t.operations)) l in
        r.1 q kq ∙ sym (picked_step t list (copy_place o (less_or_not o (length t.operations))) q r.0);
  })

  from_list : (n : ℕ) → IsDiscerning (with_operations t list) n → IsDiscerning t n
  from_list = discerning_carried (λ q. Unit {0}) (λ i. get_or list i 0) (with_operations t list) t (record {
    states = refl;
    inside = λ i l. each_at (λ o. o < length t.operations) list (get_or list i 0) (recursion_from_All (λ o. o < length t.operations) list known) (IsIn-at list i 0 (omega (arith, l, length-map list pick)));
    known = λ q l. tt;
    onward = λ o q l kq. tt;
    step = λ i q l kq. picked_step t list i q (omega (arith, l, length-map list pick));
  })

  pub same_with_list : (n : ℕ) → IsDiscerning t n ↔ IsDiscerning (with_operations t list) n
  same_with_list n = (to_list n, from_list n)
