-- The operations of a recording witness record, and a stock that records is that of a recording witness.
use Rattle.std.proofs.Common.{◌≡◌, ℕ, ◌<◌, List, [], ◌∷◌, ◌++◌, length, refl, sym, ap, ◌∙◌, subst, arith, Some, Bool, true, false}
use Rattle.std.specs.Prelude.{slice_index, slice_get}
use Rattle.std.proofs.lemmas.List.{map-append}
use Rattle.std.proofs.lemmas.Option.{same_Some}
use Rattle.cn_table.specs.TypeTable.{TypeTable, transition}
use Rattle.cn_table.specs.Run.{state_after}
use Rattle.cn_choice.specs.declared.team.Team.{Team}
use Rattle.cn_choice.specs.declared.team.Team.TheVariants.{A, B}
use Rattle.cn_choice.specs.Orders.{IsOrder}
use Rattle.cn_choice.specs.OutcomeSets.{operations_of}
use Rattle.cn_choice.specs.RawChoices.{IsRawChoice, RawChoice}
use Rattle.cn_choice.proofs.OrderLemmas.ShortOrders.{known_two}
use Rattle.cn_choice.proofs.OrderLemmas.LastMoves.{order_from}
use Rattle.cn_choice.proofs.OrderLemmas.AllOrders.{differ_from}
use Rattle.cn_outcomes.specs.LeftStates.{LeavesIn}
use Rattle.cn_stocks.specs.Words.{EndsIn, IsWithin}
use Rattle.cn_stocks.proofs.Times.{place_in, times_at}
use Rattle.cn_stocks.proofs.WordOrders.{order_for, order_within}
use Rattle.cn_stocks.proofs.Teams.{choice_of, chosen_a, chosen_b, in_a, is_choice, operations_known, some_in_a, some_in_b, team_a, team_at, team_b, team_of}
use Rattle.cn_recover.specs.Recording.{HasTwo, IsRecording, IsRecordingWitness}
use Rattle.cn_stocks.specs.Records.{HasTwoOf, Records, SomeRecords}
use Rattle.cn_recover.proofs.ShortOrders.{alone_leaves}

-- ---- from a recording witness

module _ (t : TypeTable) (c : RawChoice) where
  front_first : (front back : List ℕ) (j : ℕ) → operations_of c front ≡ [] → slice_get (front ++ j ∷ back) 0 ≡ Some j
  front_first [] back j e = refl
  front_first (x ∷ front) back j e = absurd (cc e)

  no_front : (front : List ℕ) → operations_of c front ≡ [] → front ≡ []
  no_front [] e = refl
  no_front (x ∷ front) e = absurd (cc e)

  one_behind : (back : List ℕ) (g : ℕ) → operations_of c back ≡ g ∷ [] → (j : ℕ) × (back ≡ j ∷ []) × (slice_index c.operations j ≡ g)
  one_behind [] g e = absurd (cc e)
  one_behind (j ∷ []) g e = (j, refl, cc)
  one_behind (j ∷ k ∷ back) g e = absurd (cc e)

  -- a word that begins with an operation of the team leaves what an order does that begins in the team
  leaves : (team : Team) (f q : ℕ) → ((p : ℕ) → p < length c.operations → slice_index c.operations p ≡ f → slice_get c.marks p ≡ Some team) → EndsIn t c.state c.operations f q → LeavesIn t c team q
  leaves team f q marked e =
      let p = place_in f c.operations (omega (arith, e.1 f, times_at f e.0)) in
      let order = order_for c p.0 p.1 [] e.0 (subst (λ (x : ℕ). IsWithin c.operations (x ∷ e.0)) (sym p.2) e.1) in
      let word : operations_of c (order.front ++ p.0 ∷ order.back) ≡ f ∷ e.0 = map-append (λ p. slice_index c.operations p) order.front (p.0 ∷ order.back)
      ∙ rw (order.front_is, order.back_is, p.2) refl in
      (order.front ++ p.0 ∷ order.back, order.order, (p.0, front_first order.front order.back p.0 order.front_is, marked p.0 p.1 p.2), ap (state_after t c.state) word ∙ e.2)

  two_in : (team : Team) (chosen : ℕ → Bool) (part : Bool)
      → ((f p : ℕ) → chosen f ≡ part → p < length c.operations → slice_index c.operations p ≡ f → slice_get c.marks p ≡ Some team) → HasTwoOf c.operations chosen part → HasTwo c team
  two_in team chosen part marked h =
      let p = place_in h.0 c.operations (omega (arith, h.2 h.0, times_at h.0 (h.1 ∷ []))) in
      let order = order_for c p.0 p.1 [] (h.1 ∷ []) (subst (λ (x : ℕ). IsWithin c.operations (x ∷ h.1 ∷ [])) (sym p.2) h.2) in
      let second = one_behind order.back h.1 order.back_is in
      let both : IsOrder (length c.operations) (p.0 ∷ second.0 ∷ []) =
      subst (λ (front : List ℕ). IsOrder (length c.operations) (front ++ p.0 ∷ second.0 ∷ [])) (no_front order.front order.front_is)
      (subst (λ (back : List ℕ). IsOrder (length c.operations) (order.front ++ p.0 ∷ back)) second.1 order.order) in
      let known : second.0 < length c.operations = both.known 1 0 (omega arith) in
      (p.0, second.0, (differ_from (p.0 ∷ second.0 ∷ []) both.distinct).0.0, p.1, known, marked h.0 p.0 h.3 p.1 p.2, marked h.1 second.0 h.4 known second.2)

module _ (t : TypeTable) (n : ℕ) (c : RawChoice) (is : IsRawChoice t n c) (w : IsRecordingWitness t c) where
  -- processes with one operation are in one team
  twins : (p q : ℕ) → p < n → q < n → slice_index c.operations p ≡ slice_index c.operations q → slice_get c.marks p ≡ Some A → slice_get c.marks q ≡ Some B → ⊥
  twins p q l u e a b =
      let left : (transition t (slice_index c.operations q) c.state).1 ≡ (transition t (slice_index c.operations p) c.state).1 = ap (λ (o : ℕ). (transition t o c.state).1) (sym e) in
      w.apart (transition t (slice_index c.operations p) c.state).1 (alone_leaves t c A p (omega (arith, l, is.one_operation_each)) a)
      (subst (LeavesIn t c B) left (alone_leaves t c B q (omega (arith, u, is.one_operation_each)) b))

  all_a : (f p : ℕ) → in_a c.operations c.marks f ≡ true → p < length c.operations → slice_index c.operations p ≡ f → slice_get c.marks p ≡ Some A
  all_a f p e l = team_a t n c is twins f p e (omega (arith, l, is.one_operation_each))

  all_b : (f p : ℕ) → in_a c.operations c.marks f ≡ false → p < length c.operations → slice_index c.operations p ≡ f → slice_get c.marks p ≡ Some B
  all_b f p e l = team_b t n c is twins f p e (omega (arith, l, is.one_operation_each))

  pub recorded_by : Records t c.state c.operations
  recorded_by = record {
    chosen = in_a c.operations c.marks;
    inside = some_in_a t n c is twins;
    outside = some_in_b t n c is twins;
    apart = λ f g q yes no a b. w.apart q (leaves t c A f q (λ p. all_a f p yes) a) (leaves t c B g q (λ p. all_b g p no) b);
    no_way_back_inside = λ two f yes a. w.no_way_back_a (two_in t c B (in_a c.operations c.marks) false all_b two) (leaves t c A f c.state (λ p. all_a f p yes) a);
    no_way_back_outside = λ two g no b. w.no_way_back_b (two_in t c A (in_a c.operations c.marks) true all_a two) (leaves t c B g c.state (λ p. all_b g p no) b);
  }

pub to_records : (t : TypeTable) (n : ℕ) → IsRecording t n → SomeRecords t n
to_records t n d = (d.0.state, d.1.state_known, (d.0.operations, operations_known t n d.0 d.1, d.1.one_operation_each, recorded_by t n d.0 d.1 d.2))

-- ---- to a recording witness

begins_with : (order : List ℕ) (p : ℕ) → slice_get order 0 ≡ Some p → (rest : List ℕ) × (order ≡ p ∷ rest)
begins_with [] p e = absurd (cc e)
begins_with (x ∷ rest) p e = (rest, ap (λ (y : ℕ). y ∷ rest) (same_Some x p e))

module _ (t : TypeTable) (start : ℕ) (stock : List ℕ) (s : Records t start stock) where
  abbrev witness : RawChoice
  witness = choice_of start stock s.chosen

  part_at : (p : ℕ) (team : Team) → slice_get witness.marks p ≡ Some team → team_of (s.chosen (slice_index stock p)) ≡ team
  part_at p team e = team_at (λ (x : ℕ). team_of (s.chosen x)) stock p team e

  left_by : (team : Team) (q : ℕ) → LeavesIn t witness team q → (f : ℕ) × (team_of (s.chosen f) ≡ team) × EndsIn t start stock f q
  left_by team q o =
      let first = begins_with o.0 o.2.0 o.2.1 in
      let word : operations_of witness o.0 ≡ slice_index stock o.2.0 ∷ operations_of witness first.0 = ap (operations_of witness) first.1 in (
        slice_index stock o.2.0,
        part_at o.2.0 team o.2.2,
        (operations_of witness first.0, subst (IsWithin stock) word (order_within witness o.0 o.1), ap (state_after t start) (sym word) ∙ o.3),
      )

  two_of : (team : Team) (part : Bool) → ((b : Bool) → team_of b ≡ team → b ≡ part) → HasTwo witness team → HasTwoOf stock s.chosen part
  two_of team part is h = (
    slice_index stock h.0,
    slice_index stock h.1,
    order_within witness (h.0 ∷ h.1 ∷ []) (order_from (length stock) h.0 (h.1 ∷ []) (known_two (length stock) h.0 h.1 h.3 h.4 h.2)),
    is (s.chosen (slice_index stock h.0)) (part_at h.0 team h.5),
    is (s.chosen (slice_index stock h.1)) (part_at h.1 team h.6),
  )

  is_recording_witness : IsRecordingWitness t witness
  is_recording_witness = record {
    apart = λ q a b. (
        let f = left_by A q a in
        let g = left_by B q b in
        s.apart f.0 g.0 q (chosen_a (s.chosen f.0) f.1) (chosen_b (s.chosen g.0) g.1) f.2 g.2);
    no_way_back_a = λ two a. (let f = left_by A start a in s.no_way_back_inside (two_of B false chosen_b two) f.0 (chosen_a (s.chosen f.0) f.1) f.2);
    no_way_back_b = λ two b. (let g = left_by B start b in s.no_way_back_outside (two_of A true chosen_a two) g.0 (chosen_b (s.chosen g.0) g.1) g.2);
  }

pub to_recording : (t : TypeTable) (n : ℕ) → SomeRecords t n → IsRecording t n
to_recording t n h =
    let r = h.2 in
    (choice_of h.0 r.0 r.3.chosen, is_choice h.0 r.0 r.3.chosen t n h.1 r.1 r.2 r.3.inside r.3.outside, is_recording_witness t h.0 r.0 r.3)
