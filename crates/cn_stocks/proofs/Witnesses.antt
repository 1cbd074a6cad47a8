-- A witness splits its operations, and a stock that splits is that of a witness.
use Rattle.std.proofs.Common.{◌≡◌, ◌≢◌, ℕ, zero, suc, ◌<◌, ◌≤◌, inl, inr, List, [], ◌∷◌, ◌++◌, length, map, get_or, refl, sym, ap, ◌∙◌, subst, arith, Some}
use Rattle.std.specs.Prelude.{slice_index, slice_get}
use Rattle.std.proofs.lemmas.Option.{same_Some}
use Rattle.cn_table.specs.TypeTable.{TypeTable, transition}
use Rattle.cn_table.specs.Run.{state_after}
use Rattle.cn_choice.specs.declared.team.Team.{Team}
use Rattle.cn_choice.specs.declared.team.Team.TheVariants.{A, B}
use Rattle.cn_choice.specs.Discerning.{IsDiscerning, IsWitness}
use Rattle.cn_choice.specs.Orders.{IsOrder}
use Rattle.cn_choice.specs.OutcomeSets.{InOutcomeSet, operations_of, pair_of}
use Rattle.cn_choice.specs.RawChoices.{IsRawChoice, RawChoice}
use Rattle.cn_choice.proofs.OrderLemmas.LastMoves.{last_self, pair_whole}
use Rattle.std.proofs.lemmas.List.{map-append}
use Rattle.cn_stocks.specs.Splits.{SomeSplits, StockSplits, SplitsFrom}
use Rattle.cn_stocks.specs.Words.{BeginsWith, IsWithin, Shows}
use Rattle.cn_stocks.proofs.Teams.{choice_of, chosen_a, chosen_b, in_a, is_choice, operations_known, some_in_a, some_in_b, team_a, team_at, team_b, team_of}
use Rattle.cn_stocks.proofs.Times.{place_in, times_between, one_at}
use Rattle.cn_stocks.proofs.WordOrders.{order_for, order_within, seen, sees, to_order}

-- a process that is neither of two
third : (p q n : ℕ) → 3 ≤ n → (k : ℕ) × (k < n) × (k ≢ p) × (k ≢ q)
third zero zero n l = (1, omega arith, λ e. absurd (omega (arith, e)), λ e. absurd (omega (arith, e)))
third zero (suc zero) n l = (2, omega arith, λ e. absurd (omega (arith, e)), λ e. absurd (omega (arith, e)))
third zero (suc (suc q)) n l = (1, omega arith, λ e. absurd (omega (arith, e)), λ e. absurd (omega (arith, e)))
third (suc zero) zero n l = (2, omega arith, λ e. absurd (omega (arith, e)), λ e. absurd (omega (arith, e)))
third (suc (suc p)) zero n l = (1, omega arith, λ e. absurd (omega (arith, e)), λ e. absurd (omega (arith, e)))
third (suc p) (suc q) n l = (0, omega arith, λ e. absurd (omega (arith, e)), λ e. absurd (omega (arith, e)))

-- the first process of an order that is a word
head_of : (f : ℕ → ℕ) (x : ℕ) (order : List ℕ) → order ≢ [] → BeginsWith x (map f order) → (p : ℕ) × (rest : List ℕ) × (order ≡ p ∷ rest) × (f p ≡ x)
head_of f x [] n b = absurd b
head_of f x (p ∷ ps) n b = (p, ps, refl, b)

-- ---- from a witness

module _ (t : TypeTable) (n : ℕ) (some : 3 ≤ n) (c : RawChoice) (is : IsRawChoice t n c) (w : IsWitness t c) where
  two_order : (p k : ℕ) → p < n → k < n → k ≢ p → IsOrder (length c.operations) (p ∷ k ∷ [])
  two_order p k l u d = subst (λ (m : ℕ). IsOrder m (p ∷ k ∷ [])) (sym is.one_operation_each)
      (to_order n (p ∷ k ∷ []) (λ e. absurd (cc e)) (λ x i. elim i [ inl e ↦ subst (λ (y : ℕ). y < n) e l | inr j ↦ elim j [ inl e ↦ subst (λ (y : ℕ). y < n) e u | inr a ↦ absurd a ] ])
      (((λ e. d (sym e)), tt), (tt, tt)))

  -- processes with one operation are in one team
  twins : (p q : ℕ) → p < n → q < n → slice_index c.operations p ≡ slice_index c.operations q → slice_get c.marks p ≡ Some A → slice_get c.marks q ≡ Some B → ⊥
  twins p q l u e a b =
      let k = third p q n some in
      let answer = pair_after p k.0 k.2 in
      let other = pair_after q k.0 k.3 in
      w k.0 (see p k.0) (p ∷ k.0 ∷ [], two_order p k.0 l k.1 k.2, (p, refl, a), answer)
      (q ∷ k.0 ∷ [], two_order q k.0 u k.1 k.3, (q, refl, b), other ∙ ap (λ (o : ℕ). Some (see_by o k.0)) (sym e))
    where
      see_by : ℕ → ℕ → ℕ × ℕ
      see_by o k = ((transition t (slice_index c.operations k) (transition t o c.state).1).0, (transition t (slice_index c.operations k) (transition t o c.state).1).1)

      see : ℕ → ℕ → ℕ × ℕ
      see p k = see_by (slice_index c.operations p) k

      pair_after : (p k : ℕ) → k ≢ p → pair_of t c (p ∷ k ∷ []) k ≡ Some (see p k)
      pair_after p k d = pair_whole t c k (p ∷ k ∷ []) (see p k).0 (see p k).1 (last_self t c k (p ∷ []) (λ i. elim i [ inl e ↦ d (sym e) | inr a ↦ absurd a ])) refl

  -- a process in a team with the operation of the first
  outcome : (team : Team) (f o r q j : ℕ) → ((p : ℕ) → p < n → slice_index c.operations p ≡ f → slice_get c.marks p ≡ Some team) → j < length c.operations → slice_index c.operations j ≡ o
      → Shows t c.state c.operations f o r q → InOutcomeSet t c team j (r, q)
  outcome team f o r q j marked l e s =
      let order = order_for c j l s.before s.after (subst (λ (x : ℕ). IsWithin c.operations (s.before ++ x ∷ s.after)) (sym e) s.within) in
      let word : operations_of c (order.front ++ j ∷ order.back) ≡ s.before ++ o ∷ s.after =
      map-append (λ p. slice_index c.operations p) order.front (j ∷ order.back) ∙ rw (order.front_is, order.back_is, e) refl in
      let head = head_of (λ p. slice_index c.operations p) f (order.front ++ j ∷ order.back) order.order.someone (subst (λ (w : List ℕ). BeginsWith f w) (sym word) s.begins) in
      let known : head.0 < length c.operations = subst (λ (l : List ℕ). (0 < length l) → get_or l 0 0 < length c.operations) head.2 (order.order.known 0 0) (omega arith) in (
        order.front ++ j ∷ order.back,
        order.order,
        (head.0, ap (λ (l : List ℕ). slice_get l 0) head.2, marked head.0 (omega (arith, known, is.one_operation_each)) head.3),
        sees c t j s.before s.after o r q e order s.answer s.ends,
      )

  pub split_by : StockSplits t c.state c.operations
  split_by = record {
    chosen = in_a c.operations c.marks;
    inside = some_in_a t n c is twins;
    outside = some_in_b t n c is twins;
    apart = λ f g yes no joined.
        let o = joined.0 in
        let shows = joined.3 in
        let here = place_in o c.operations (omega (arith, shows.within o, times_between o o shows.before shows.after, one_at o)) in
        w here.0 (joined.1, joined.2)
        (outcome A f o joined.1 joined.2 here.0 (λ p l e. team_a t n c is twins f p yes l e) here.1 here.2 shows)
        (outcome B g o joined.1 joined.2 here.0 (λ p l e. team_b t n c is twins g p no l e) here.1 here.2 joined.4);
  }

-- the operations of a witness split from its start state
pub to_splits_from : (t : TypeTable) (n : ℕ) (c : RawChoice) → 3 ≤ n → IsRawChoice t n c → IsWitness t c → SplitsFrom t n c.state
to_splits_from t n c some is w = (c.operations, operations_known t n c is, is.one_operation_each, split_by t n some c is w)

pub to_splits : (t : TypeTable) (n : ℕ) → 3 ≤ n → IsDiscerning t n → SomeSplits t n
to_splits t n some d = (d.0.state, d.1.state_known, to_splits_from t n d.0 some d.1 d.2)

-- ---- to a witness

begins_at : (f : ℕ → ℕ) (order : List ℕ) (p : ℕ) → slice_get order 0 ≡ Some p → BeginsWith (f p) (map f order)
begins_at f [] p e = absurd (cc e)
begins_at f (x ∷ xs) p e = ap f (same_Some x p e)

module _ (t : TypeTable) (start : ℕ) (stock : List ℕ) (s : StockSplits t start stock) where
  abbrev witness : RawChoice
  witness = choice_of start stock s.chosen

  -- what a process sees in an order, as a word shows it
  shown : (team : Team) (j r q : ℕ) → InOutcomeSet t witness team j (r, q) → (f : ℕ) × (team_of (s.chosen f) ≡ team) × Shows t start stock f (slice_index stock j) r q
  shown team j r q o =
      let x = seen witness t o.0 j r q o.3 in
      let word : operations_of witness o.0 ≡ operations_of witness x.before ++ slice_index stock j ∷ operations_of witness x.after =
      ap (operations_of witness) x.is ∙ map-append (λ p. slice_index stock p) x.before (j ∷ x.after) in (
        slice_index stock o.2.0,
        team_at (λ (x : ℕ). team_of (s.chosen x)) stock o.2.0 team o.2.2,
        record {
          before = operations_of witness x.before;
          after = operations_of witness x.after;
          within = subst (λ (w : List ℕ). IsWithin stock w) word (order_within witness o.0 o.1);
          begins = subst (λ (w : List ℕ). BeginsWith (slice_index stock o.2.0) w) word (begins_at (λ p. slice_index stock p) o.0 o.2.0 o.2.1);
          answer = x.answer;
          ends = ap (λ (w : List ℕ). state_after t start w) (sym word) ∙ x.ends;
        },
      )

  is_witness : IsWitness t witness
  is_witness j pair a b =
      let f = shown A j pair.0 pair.1 a in
      let g = shown B j pair.0 pair.1 b in
      s.apart f.0 g.0 (chosen_a (s.chosen f.0) f.1) (chosen_b (s.chosen g.0) g.1) (slice_index stock j, pair.0, pair.1, f.2, g.2)

pub to_witness : (t : TypeTable) (n : ℕ) → SomeSplits t n → IsDiscerning t n
to_witness t n h =
    let s = h.2 in
    (choice_of h.0 s.0 s.3.chosen, is_choice h.0 s.0 s.3.chosen t n h.1 s.1 s.2 s.3.inside s.3.outside, is_witness t h.0 s.0 s.3)
