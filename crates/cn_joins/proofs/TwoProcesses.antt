-- Types that are 2-discerning.
use Rattle.std.proofs.Common.{◌≡◌, ◌≢◌, ℕ, zero, suc, ◌<◌, ◌⊎◌, inl, inr, ◌↔◌, List, [], ◌∷◌, ◌++◌, length, map, get_or, refl, sym, ap, ◌∙◌, subst, arith, Option, Some, Contains, length-append}
use Rattle.std.specs.Prelude.{slice_index, slice_get}
use Rattle.std.specs.List.{AllByRecursion}
use Rattle.std.proofs.lemmas.List.{length-map, map-append}
use Rattle.std.proofs.lemmas.Bool.{eq-eqb}
use Rattle.std.proofs.lemmas.List.Elements.{All-from_recursion, recursion_from_All}
use Rattle.std.proofs.lemmas.Option.{same_Some, slice_get-get_or}
use Rattle.cn_table.specs.TypeTable.{TypeTable, transition}
use Rattle.cn_table.specs.Run.{state_after}
use Rattle.cn_choice.specs.declared.team.Team.{Team}
use Rattle.cn_choice.specs.declared.team.Team.TheVariants.{A, B}
use Rattle.cn_choice.specs.Discerning.{IsDiscerning, IsWitness}
use Rattle.cn_choice.specs.Orders.{IsOrder}
use Rattle.cn_choice.specs.OutcomeSets.{InOutcomeSet, operations_of, pair_of}
use Rattle.cn_choice.specs.RawChoices.{IsRawChoice, RawChoice}
use Rattle.cn_choice.proofs.ListLemmas.Arrangements.{Differ}
use Rattle.cn_choice.proofs.ListLemmas.Members.{each_at}
use Rattle.cn_choice.proofs.OrderLemmas.AllOrders.{differ_from}
use Rattle.cn_choice.proofs.OrderLemmas.LastMoves.{last_self, pair_whole}
use Rattle.cn_stocks.specs.Splits.{SomeSplits, StockSplits}
use Rattle.cn_stocks.specs.Words.{BeginsWith, IsWithin, Shows}
use Rattle.cn_stocks.proofs.Teams.{in_a, operations_known, some_in_a, some_in_b, team_a, team_b}
use Rattle.cn_stocks.proofs.Times.{one_at, place_in, same_or, times_between}
use Rattle.cn_stocks.proofs.Witnesses.{to_witness}
use Rattle.cn_stocks.proofs.WordOrders.{order_for, order_within, seen, sees, to_order}
use Rattle.cn_joins.specs.Evidence.{NoticesItself, SomeNotices}
use Rattle.cn_joins.proofs.Finite.{within_short}

-- ---- from a witness whose processes of two teams have different operations

head_of : (f : ℕ → ℕ) (x : ℕ) (order : List ℕ) → order ≢ [] → BeginsWith x (map f order) → (p : ℕ) × (rest : List ℕ) × (order ≡ p ∷ rest) × (f p ≡ x)
head_of f x [] n b = absurd b
head_of f x (p ∷ ps) n b = (p, ps, refl, b)

module _ (t : TypeTable) (n : ℕ) (c : RawChoice) (is : IsRawChoice t n c) (w : IsWitness t c)
    (twins : (p q : ℕ) → p < n → q < n → slice_index c.operations p ≡ slice_index c.operations q → slice_get c.marks p ≡ Some A → slice_get c.marks q ≡ Some B → ⊥) where
  pub outcome : (team : Team) (f o r q j : ℕ) → ((p : ℕ) → p < n → slice_index c.operations p ≡ f → slice_get c.marks p ≡ Some team) → j < length c.operations → slice_index c.operations j ≡ o
      → Shows t c.state c.operations f o r q → InOutcomeSet t c team j (r, q)
  outcome team f o r q j marked l e s =
      let order = order_for c j l s.before s.after (subst (λ (x : ℕ). IsWithin c.operations (s.before ++ x ∷ s.after)) (sym e) s.within) in
      let word : operations_of c (order.front ++ j ∷ order.back) ≡ s.before ++ o ∷ s.after =
      map-append (λ p. slice_index c.operations p) order.front (j ∷ order.back) ∙ rw (order.front_is, order.back_is, e) refl in
      let head = head_of (λ p. slice_index c.operations p) f (order.front ++ j ∷ order.back) order.order.someone (subst (λ (w : List ℕ). BeginsWith f w) (sym word) s.begins) in
      let known : head.0 < length c.operations = subst (λ (l : List ℕ). (0 < length l) → get_or l 0 0 < length c.operations) head.2 (order.order.known 0 0) (omega arith) in (
        order.front ++ j ∷ order.back,
        order.order,
        (head.0, ap (λ (l : List ℕ). slice_get l 0) head.2, marked head.0 (omega (arith, known, is.one_operation_each)) head.3),
        sees c t j s.before s.after o r q e order s.answer s.ends,
      )

  split_by : StockSplits t c.state c.operations
  split_by = record {
    chosen = in_a c.operations c.marks;
    inside = some_in_a t n c is twins;
    outside = some_in_b t n c is twins;
    apart = λ f g yes no joined.
        let o = joined.0 in
        let shows = joined.3 in
        let here = place_in o c.operations (omega (arith, shows.within o, times_between o o shows.before shows.after, one_at o)) in
        w here.0 (joined.1, joined.2)
        (outcome A f o joined.1 joined.2 here.0 (λ p l e. team_a t n c is twins f p yes l e) here.1 here.2 shows)
        (outcome B g o joined.1 joined.2 here.0 (λ p l e. team_b t n c is twins g p no l e) here.1 here.2 joined.4);
  }

-- ---- from a witness for two processes

two_order : (n p q : ℕ) → p < n → q < n → p ≢ q → IsOrder n (p ∷ q ∷ [])
two_order n p q l u d = to_order n (p ∷ q ∷ []) (λ e. absurd (cc e))
    (λ x i. elim i [ inl e ↦ subst (λ (y : ℕ). y < n) e l | inr j ↦ elim j [ inl e ↦ subst (λ (y : ℕ). y < n) e u | inr a ↦ absurd a ] ]) ((d, tt), (tt, tt))

abbrev pair_with : ℕ → ℕ → Option (ℕ × ℕ)
pair_with q r = Some (r, q)

-- what one of two operations that are the same gets behind the other, where it gets the same first
same_answer : (t : TypeTable) (s x y : ℕ) → x ≡ y → (transition t x s).0 ≡ (transition t x (transition t x s).1).0
    → ◌≡◌ {A = Option (ℕ × ℕ)} (Some ((transition t x (transition t y s).1).0, (transition t x (transition t y s).1).1)) (Some ((transition t x s).0, (transition t y (transition t x s).1).1))
same_answer t s x y e same =
    subst (λ (z : ℕ). ◌≡◌ {A = Option (ℕ × ℕ)} (Some ((transition t x (transition t z s).1).0, (transition t x (transition t z s).1).1)) (Some ((transition t x s).0, (transition t z (transition t x s).1).1))) e
    (ap (pair_with (transition t x (transition t x s).1).1) (sym same))

module _ (t : TypeTable) (c : RawChoice) where
  pair_before : (p q : ℕ) → pair_of t c (p ∷ q ∷ []) p
      ≡ Some ((transition t (slice_index c.operations p) c.state).0, (transition t (slice_index c.operations q) (transition t (slice_index c.operations p) c.state).1).1)
  pair_before p q = pair_whole t c p (p ∷ q ∷ []) (transition t (slice_index c.operations p) c.state).0
      (transition t (slice_index c.operations q) (transition t (slice_index c.operations p) c.state).1).1 (rw (eq-eqb p p refl) refl) refl

  pair_behind : (p q : ℕ) → q ≢ p → pair_of t c (q ∷ p ∷ []) p
      ≡ Some (
        (transition t (slice_index c.operations p) (transition t (slice_index c.operations q) c.state).1).0,
        (transition t (slice_index c.operations p) (transition t (slice_index c.operations q) c.state).1).1,
      )
  pair_behind p q d = pair_whole t c p (q ∷ p ∷ []) (transition t (slice_index c.operations p) (transition t (slice_index c.operations q) c.state).1).0
      (transition t (slice_index c.operations p) (transition t (slice_index c.operations q) c.state).1).1 (last_self t c p (q ∷ []) (λ i. elim i [ inl e ↦ d e | inr a ↦ absurd a ])) refl

other_of_two : (p q x : ℕ) → p < 2 → q < 2 → x < 2 → p ≢ q → x ≢ q → x ≡ p
other_of_two p q x a b l d e = omega (arith, a, b, l, d, e)

module _ (t : TypeTable) (c : RawChoice) (is : IsRawChoice t 2 c) (w : IsWitness t c) where
  not_both : (p q : ℕ) → slice_get c.marks p ≡ Some A → slice_get c.marks q ≡ Some B → p ≢ q
  not_both p q a b e = absurd (cc (sym a ∙ (ap (λ (x : ℕ). slice_get c.marks x) e ∙ b)))

  order_of : (x y : ℕ) → x < 2 → y < 2 → x ≢ y → IsOrder (length c.operations) (x ∷ y ∷ [])
  order_of x y l u d = two_order (length c.operations) x y (omega (arith, l, is.one_operation_each)) (omega (arith, u, is.one_operation_each)) d

  -- two processes of two teams with one operation: it notices itself
  pub notices : (p q : ℕ) → p < 2 → q < 2 → slice_get c.marks p ≡ Some A → slice_get c.marks q ≡ Some B → slice_index c.operations p ≡ slice_index c.operations q
      → NoticesItself t c.state (slice_index c.operations p)
  notices p q l u a b e same =
      let d = not_both p q a b in
      let x = slice_index c.operations p in
      let y = slice_index c.operations q in
      w p ((transition t x c.state).0, (transition t y (transition t x c.state).1).1) (p ∷ q ∷ [], order_of p q l u d, (p, refl, a), pair_before t c p q)
      (q ∷ p ∷ [], order_of q p u l (λ s. d (sym s)), (q, refl, b), pair_behind t c p q (λ s. d (sym s)) ∙ same_answer t c.state x y e same)

  marked_at : (team : Team) → Contains c.marks team → (p : ℕ) × (p < 2) × (slice_get c.marks p ≡ Some team)
  marked_at team h = (h.0, omega (arith, h.1, is.one_team_each), slice_get-get_or c.marks h.0 team h.1 ∙ ap Some h.2)

  pub from_witness : SomeSplits t 2 ⊎ SomeNotices t
  from_witness =
      let p = marked_at A is.someone_in_a in
      let q = marked_at B is.someone_in_b in
      elim (same_or (slice_index c.operations p.0) (slice_index c.operations q.0)) [
        | inl e ↦ inr (
          c.state,
          is.state_known,
          (slice_index c.operations p.0, is.operations_known p.0 0 (omega (arith, p.1, is.one_operation_each)), notices p.0 q.0 p.1 q.1 p.2 q.2 e),
        )
        | inr n ↦ inl (
          c.state,
          is.state_known,
          (c.operations, operations_known t 2 c is, is.one_operation_each, split_by t 2 c is w (λ x y l u e a b. twins p.0 q.0 p.1 q.1 p.2 q.2 n x y l u e a b)),
        )
      ]
    where
      twins : (p q : ℕ) → p < 2 → q < 2 → slice_get c.marks p ≡ Some A → slice_get c.marks q ≡ Some B → slice_index c.operations p ≢ slice_index c.operations q → (x y : ℕ) → x < 2 → y < 2
          → slice_index c.operations x ≡ slice_index c.operations y → slice_get c.marks x ≡ Some A → slice_get c.marks y ≡ Some B → ⊥
      twins p q l u a b n x y x_known y_known e x_a y_b =
          let first = other_of_two p q x l u x_known (not_both p q a b) (not_both x q x_a b) in
          let second = other_of_two q p y u l y_known (λ s. not_both p q a b (sym s)) (λ s. not_both p y a y_b (sym s)) in
          n (ap (λ (i : ℕ). slice_index c.operations i) (sym first) ∙ (e ∙ ap (λ (i : ℕ). slice_index c.operations i) second))

-- ---- to a witness for two processes

first_of_a : (p : ℕ) → slice_get (A ∷ B ∷ []) p ≡ Some A → p ≡ 0
first_of_a zero e = refl
first_of_a (suc zero) e = absurd (cc e)
first_of_a (suc (suc p)) e = absurd (cc e)

first_of_b : (p : ℕ) → slice_get (A ∷ B ∷ []) p ≡ Some B → p ≡ 1
first_of_b zero e = absurd (cc e)
first_of_b (suc zero) e = refl
first_of_b (suc (suc p)) e = absurd (cc e)

module _ (t : TypeTable) (start o : ℕ) (start_known : start < length t.states) (o_known : o < length t.operations) where
  abbrev pair_choice : RawChoice
  pair_choice = record { state = start; operations = o ∷ o ∷ []; marks = A ∷ B ∷ [] }

  is_pair : IsRawChoice t 2 pair_choice
  is_pair = record {
    state_known = start_known;
    operations_known = All-from_recursion (λ x. x < length t.operations) (o ∷ o ∷ []) (o_known, (o_known, tt));
    one_operation_each = refl;
    one_team_each = refl;
    someone_in_a = (0, omega arith, refl);
    someone_in_b = (1, omega arith, refl);
  }

  both_o : (j : ℕ) → j < 2 → slice_index (o ∷ o ∷ []) j ≡ o
  both_o zero l = refl
  both_o (suc zero) l = refl
  both_o (suc (suc j)) l = absurd (omega (arith, l))

  -- what a process gets, by whether it is the first
  record Gets (order : List ℕ) (j r : ℕ) : Type 0 where
    known : j < 2
    at_first : slice_get order 0 ≡ Some j → r ≡ (transition t o start).0
    later : slice_get order 0 ≢ Some j → r ≡ (transition t o (transition t o start).1).0

  by_before : (order before after : List ℕ) (j r : ℕ) → IsOrder 2 order → order ≡ before ++ j ∷ after
      → (transition t (slice_index (o ∷ o ∷ []) j) (state_after t start (operations_of pair_choice before))).0 ≡ r → Gets order j r
  by_before order [] after j r is e answer =
      let known = (subst (λ (l : List ℕ). AllByRecursion (λ p. p < 2) l) e (recursion_from_All (λ p. p < 2) order is.known)).0 in record {
        known = known;
        at_first = λ f. sym answer ∙ ap (λ (x : ℕ). (transition t x start).0) (both_o j known);
        later = λ n. absurd (n (ap (λ (l : List ℕ). slice_get l 0) e));
      }
  by_before order (x ∷ []) after j r is e answer =
      let known = subst (λ (l : List ℕ). AllByRecursion (λ p. p < 2) l) e (recursion_from_All (λ p. p < 2) order is.known) in
      let differ = subst Differ e (differ_from order is.distinct) in
      let x_known = known.0 in
      let j_known = known.1.0 in
      record {
        known = j_known;
        at_first = λ f. absurd (each_at (λ y. x ≢ y) (j ∷ after) j differ.0 (inl refl) (same_Some x j (sym (ap (λ (l : List ℕ). slice_get l 0) e) ∙ f)));
        later = λ n. sym answer ∙ two_of x j (both_o x x_known) (both_o j j_known);
      }
    where
      two_of : (x j : ℕ) → slice_index (o ∷ o ∷ []) x ≡ o → slice_index (o ∷ o ∷ []) j ≡ o
          → (transition t (slice_index (o ∷ o ∷ []) j) (transition t (slice_index (o ∷ o ∷ []) x) start).1).0 ≡ (transition t o (transition t o start).1).0
      two_of x j a b = rw (a, b) refl
  by_before order (x ∷ y ∷ before) after j r is e answer =
      let short = within_short (operations_of pair_choice order) (o ∷ o ∷ []) (order_within pair_choice order is) in
      let mapped = length-map order (λ p. slice_index (o ∷ o ∷ []) p) in
      let whole = ap length e in
      let parts = length-append before (j ∷ after) in
      absurd (omega (arith, short, mapped, whole, parts))

  gets : (order : List ℕ) (j r q : ℕ) → IsOrder 2 order → pair_of t pair_choice order j ≡ Some (r, q) → Gets order j r
  gets order j r q is e = let s = seen pair_choice t order j r q e in by_before order s.before s.after j r is s.is s.answer

  pub pair_is_witness : NoticesItself t start o → IsWitness t pair_choice
  pair_is_witness notices j pair a b =
      let first = a.2.1 ∙ ap Some (first_of_a a.2.0 a.2.2) in
      let second = b.2.1 ∙ ap Some (first_of_b b.2.0 b.2.2) in
      apart j pair.0 a.0 b.0 first second (gets a.0 j pair.0 pair.1 a.1 a.3) (gets b.0 j pair.0 pair.1 b.1 b.3)
    where
      apart : (j r : ℕ) (first second : List ℕ) → slice_get first 0 ≡ Some 0 → slice_get second 0 ≡ Some 1 → Gets first j r → Gets second j r → ⊥
      apart zero r first second a b g h = notices (sym (g.at_first a) ∙ h.later (λ e. absurd (cc (sym b ∙ e))))
      apart (suc zero) r first second a b g h = notices (sym (h.at_first b) ∙ g.later (λ e. absurd (cc (sym a ∙ e))))
      apart (suc (suc j)) r first second a b g h = absurd (omega (arith, g.known))

pub two : (t : TypeTable) → IsDiscerning t 2 ↔ (SomeSplits t 2 ⊎ SomeNotices t)
two t = (
  λ d. from_witness t d.0 d.1 d.2,
  λ h. elim h [
    | inl s ↦ to_witness t 2 s
    | inr n ↦ (pair_choice t n.0 n.2.0 n.1 n.2.1, is_pair t n.0 n.2.0 n.1 n.2.1, pair_is_witness t n.0 n.2.0 n.1 n.2.1 n.2.2)
  ],
)
