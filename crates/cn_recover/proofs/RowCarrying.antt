-- A type is n-recording if another one is so of which each operation leads from each state to where some operation of it leads.
use Rattle.std.proofs.Common.{◌≡◌, ◌↔◌, ◌⊎◌, inl, inr, ℕ, ◌<◌, ◌≤◌, List, [], ◌∷◌, length, map, get_or, refl, sym, ap, ◌∙◌, subst, arith, All}
use Rattle.std.specs.Prelude.{slice_index, slice_index_or}
use Rattle.std.specs.List.{AllByRecursion}
use Rattle.std.proofs.lemmas.List.{get_or-map, length-map}
use Rattle.std.proofs.lemmas.List.Elements.{All-from_recursion, recursion_from_All}
use Rattle.cn_table.specs.Restriction.{with_operations}
use Rattle.cn_table.specs.Run.{state_after}
use Rattle.cn_table.specs.TypeTable.{Row, TypeTable, no_row, transition}
use Rattle.cn_choice.specs.declared.team.Team.{Team}
use Rattle.cn_choice.specs.declared.team.Team.TheVariants.{A, B}
use Rattle.cn_choice.specs.Orders.{IsOrder}
use Rattle.cn_choice.specs.OutcomeSets.{operations_of}
use Rattle.cn_choice.specs.RawChoices.{RawChoice}
use Rattle.cn_choice.proofs.ChoiceLemmas.Embeddings.{each_map}
use Rattle.cn_choice.proofs.ListLemmas.Members.{IsIn-at, IsIn-from_Contains, each_at}
use Rattle.cn_copies.proofs.Picked.{picked_step, place, place_at}
use Rattle.cn_outcomes.specs.LeftStates.{LeavesIn}
use Rattle.cn_stocks.proofs.StockLemmas.{before_or_behind}
use Rattle.cn_telling.specs.Rows.{HaveOneRow}
use Rattle.cn_recover.specs.Recording.{HasTwo, IsRecording, IsRecordingWitness}
use Rattle.cn_recover.specs.Rows.{HaveEachRow}

-- each operation of t leads from each state to where one of u does, under the number that f gives
record LeadsAlike (f : ℕ → ℕ) (t u : TypeTable) : Type 0 where
  pub states : length t.states ≡ length u.states
  pub inside : (o : ℕ) → o < length t.operations → f o < length u.operations
  pub step : (o q : ℕ) → o < length t.operations → (transition t o q).1 ≡ (transition u (f o) q).1

module _ (f : ℕ → ℕ) (t u : TypeTable) (k : LeadsAlike f t u) where
  -- the choice with the operations of u
  abbrev carried : RawChoice → RawChoice
  carried c = record { state = c.state; operations = map f c.operations; marks = c.marks }

  module _ (c : RawChoice) (known : All (λ o. o < length t.operations) c.operations) where
    state_carried : (order : List ℕ) → AllByRecursion (λ p. p < length c.operations) order → (q : ℕ)
        → state_after u q (operations_of (carried c) order) ≡ state_after t q (operations_of c order)
    state_carried [] a q = refl
    state_carried (p ∷ ps) a q =
        let o = slice_index c.operations p in
        let same : (transition u (slice_index (map f c.operations) p) q).1 ≡ (transition t o q).1 =
        ap (λ (x : ℕ). (transition u x q).1) (get_or-map f c.operations p 0 0 a.0) ∙ sym (k.step o q (known p 0 a.0)) in
        ap (λ (s : ℕ). state_after u s (operations_of (carried c) ps)) same ∙ state_carried ps a.1 (transition t o q).1

    left_back : (team : Team) (q : ℕ) → LeavesIn u (carried c) team q → LeavesIn t c team q
    left_back team q o =
        let is : IsOrder (length c.operations) o.0 = subst (λ (n : ℕ). IsOrder n o.0) (length-map c.operations f) o.1 in
        (o.0, is, o.2, sym (state_carried o.0 (recursion_from_All (λ p. p < length c.operations) o.0 is.known) c.state) ∙ o.3)

    two_back : (team : Team) → HasTwo (carried c) team → HasTwo c team
    two_back team h = let long = length-map c.operations f in (h.0, h.1, h.2, omega (arith, h.3, long), omega (arith, h.4, long), h.5, h.6)

    witness_carried : IsRecordingWitness t c → IsRecordingWitness u (carried c)
    witness_carried w = record {
      apart = λ q a b. w.apart q (left_back A q a) (left_back B q b);
      no_way_back_a = λ h o. w.no_way_back_a (two_back B h) (left_back A c.state o);
      no_way_back_b = λ h o. w.no_way_back_b (two_back A h) (left_back B c.state o);
    }

  recording_carried : (n : ℕ) → IsRecording t n → IsRecording u n
  recording_carried n (c, is, w) = (
    carried c,
    record {
      state_known = omega (arith, is.state_known, k.states);
      operations_known = All-from_recursion (λ o. o < length u.operations) (map f c.operations)
          (each_map f (length t.operations) (length u.operations) k.inside c.operations (recursion_from_All (λ o. o < length t.operations) c.operations is.operations_known));
      one_operation_each = length-map c.operations f ∙ is.one_operation_each;
      one_team_each = is.one_team_each;
      someone_in_a = is.someone_in_a;
      someone_in_b = is.someone_in_b;
    },
    witness_carried c is.operations_known w,
  )

module _ (t : TypeTable) (list : List ℕ) (known : All (λ o. o < length t.operations) list) (has : HaveEachRow t list) where
  abbrev pick : ℕ → Row
  pick o = slice_index_or t.operations o no_row

  -- where the operation of its row stands in the list
  abbrev row_place : (o : ℕ) → (o < length t.operations) ⊎ (length t.operations ≤ o) → ℕ
  row_place o (inl l) = place (has o l).0 list
  row_place o (inr u) = 0

  place_right : (o : ℕ) (d : (o < length t.operations) ⊎ (length t.operations ≤ o)) → o < length t.operations
      → (row_place o d < length list) × HaveOneRow t o (get_or list (row_place o d) 0)
  place_right o (inl l) k =
      let r = has o l in
      let at = place_at r.0 list (IsIn-from_Contains r.0 list r.1) in
      (at.0, subst (HaveOneRow t o) (sym at.1) r.2)
  place_right o (inr u) k = absurd (omega (arith, u, k))

  to_list : (n : ℕ) → IsRecording t n → IsRecording (with_operations t list) n
  to_list = recording_carried (λ o. row_place o (before_or_behind o (length t.operations))) t (with_operations t list) (record {
    states = refl;
    inside = λ o l. let r = place_right o (before_or_behind o (length t.operations)) l in omega (arith, r.0, length-map list pick);
    step = λ o q l. let r = place_right o (before_or_behind o (length t.operations)) l in
        ap (λ (row : List ℕ). slice_index row q) r.1
        ∙ ap (λ (p : ℕ × ℕ). p.1) (sym (picked_step t list (row_place o (before_or_behind o (length t.operations))) q r.0));
  })

  from_list : (n : ℕ) → IsRecording (with_operations t list) n → IsRecording t n
  from_list = recording_carried (λ i. get_or list i 0) (with_operations t list) t (record {
    states = refl;
    inside = λ i l. each_at (λ o. o < length t.operations) list (get_or list i 0) (recursion_from_All (λ o. o < length t.operations) list known) (IsIn-at list i 0 (omega (arith, l, length-map list pick)));
    step = λ i q l. ap (λ (p : ℕ × ℕ). p.1) (picked_step t list i q (omega (arith, l, length-map list pick)));
  })

  pub same_with_rows : (n : ℕ) → IsRecording t n ↔ IsRecording (with_operations t list) n
  same_with_rows n = (to_list n, from_list n)
