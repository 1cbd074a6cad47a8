-- An order of the first processes is a word within the stock of their operations, and each such word
-- is one. So processes are joined where their operations are.
use Rattle.std.proofs.Common.{ℕ, zero, suc, ◌≡◌, ◌≢◌, ◌↔◌, ◌+◌, ◌<◌, ◌≤◌, inl, inr, Bool, List, [], ◌∷◌, ◌++◌, length, map, get_or, slice_get, Some, refl, sym, ap, ◌∙◌, subst, arith}
use Rattle.std.proofs.lemmas.Bool.Decides.{nat_tests}
use Rattle.std.specs.List.{range_with_len, remove}
use Rattle.std.proofs.lemmas.List.{map-append}
use Rattle.std.proofs.lemmas.List.FromFn.{length-range_with_len, get_or-range_with_len}
use Rattle.cn_table.specs.TypeTable.{TypeTable, transition}
use Rattle.cn_table.specs.Run.{state_after}
use Rattle.cn_choice.proofs.ListLemmas.Arrangements.{Differ, IsTaken, differ_taken, taken_differ, taken_known}
use Rattle.cn_choice.proofs.ListLemmas.Members.{AllPairs-from_Pairs, IsIn, each_from}
use Rattle.cn_choice.proofs.ListLemmas.Permutations.{in_range, range_in, range_rises}
use Rattle.cn_proto.specs.Order.{after, answers}
use Rattle.cn_stocks.specs.Words.{BeginsWith, HaveSame, IsWithin, times}
use Rattle.cn_stocks.proofs.Steps.{shows_asked}
use Rattle.cn_stocks.proofs.Times.{one, one_else, same_or, times_append, times_between, times_cons, times_none}
use Rattle.cn_stocks.proofs.WordOrders.{differ_spread, map_parts, spread_in, taken_within, times_remove, to_taken}
use Rattle.cn_meetings.specs.Division as division
use Rattle.cn_meetings.specs.Meeting.{Meeting, Sight, act, see, sees}
use Rattle.cn_meetings.specs.Witness.{Has, IsOrderOf, IsShown}
use Rattle.cn_meetings.proofs.Finest.{coarser, finest}
use Rattle.cn_meetings.proofs.Orders.{order_apart, order_tail}
use Rattle.cn_meetings.proofs.Witnesses.{one_operation}
use Rattle.cn_divisions.specs.Divisions.{HaveSight, first, operations_of}
use Rattle.cn_divisions.specs.Joins.{AreConnected, AreJoined, Tells}
use Rattle.cn_divisions.specs.Joins.AreConnected.{ByWayOf, Itself}

pub has_first : (n p : ℕ) → p < n → Has (first n) p
has_first n p l = grind (arith, nat_tests)

pub from_first : (n p : ℕ) → Has (first n) p → p < n
from_first n p h = grind (arith, nat_tests)

differ : (processes : ℕ → Bool) (order : List ℕ) → IsOrderOf processes order → Differ order
differ processes [] is = tt
differ processes (p ∷ order) is =
    (each_from (λ q. p ≢ q) order (order_apart processes p order is), differ processes order (order_tail processes p order is))

pub got_in : (order : List ℕ) (k p : ℕ) → slice_get order k ≡ Some p → IsIn p order
got_in [] k p e = absurd cc
got_in (x ∷ order) zero p e = inl cc
got_in (x ∷ order) (suc k) p e = inr (got_in order k p e)

in_got : (order : List ℕ) (p : ℕ) → IsIn p order → (k : ℕ) × (slice_get order k ≡ Some p)
in_got [] p i = absurd i
in_got (x ∷ order) p (inl e) = (0, ap Some e)
in_got (x ∷ order) p (inr i) = let r = in_got order p i in (suc r.0, r.1)

module _ (t : TypeTable) (M : Meeting) where
  abbrev word_of : List ℕ → List ℕ
  word_of order = map M.operation order

  after_is : (q : ℕ) (order : List ℕ) → after (act t M) q order ≡ state_after t q (word_of order)
  after_is q [] = refl
  after_is q (p ∷ order) = after_is (transition t (M.operation p) q).1 order

  -- where a process gets its response
  split_at : (q : ℕ) (order : List ℕ) (k p r : ℕ) → slice_get order k ≡ Some p → slice_get (answers (act t M) q order) k ≡ Some r
      → (before : List ℕ) × (behind : List ℕ) × (order ≡ before ++ p ∷ behind) × ((transition t (M.operation p) (state_after t q (word_of before))).0 ≡ r)
  split_at q [] k p r e f = absurd cc
  split_at q (x ∷ order) zero p r e f =
      let same : x ≡ p = cc in
      let resp : (transition t (M.operation x) q).0 ≡ r = cc in
      ([], order, ap (λ (y : ℕ). y ∷ order) same, ap (λ (y : ℕ). (transition t (M.operation y) q).0) (sym same) ∙ resp)
  split_at q (x ∷ order) (suc k) p r e f =
      let rest = split_at (transition t (M.operation x) q).1 order k p r e f in
      (x ∷ rest.0, rest.1, ap (λ (l : List ℕ). x ∷ l) rest.2, rest.3)

  answered_at : (q : ℕ) (front back : List ℕ) (p : ℕ)
      → (slice_get (front ++ p ∷ back) (length front) ≡ Some p) × (slice_get (answers (act t M) q (front ++ p ∷ back)) (length front) ≡ Some (transition t (M.operation p) (state_after t q (word_of front))).0)
  answered_at q [] back p = (refl, refl)
  answered_at q (x ∷ front) back p = answered_at (transition t (M.operation x) q).1 front back p

  module _ (n : ℕ) (sight : Sight) (alike : HaveSight M n sight) (stock : List ℕ) (same : HaveSame stock (operations_of M n)) where
    order_within : (order : List ℕ) → IsOrderOf (first n) order → IsWithin stock (word_of order)
    order_within order is o =
        let taken = differ_taken order (range_with_len 0 n) (differ (first n) order is) (λ p i.
        let at = in_got order p i in
        range_in 0 n p (omega arith) (let l = from_first n p (is.members at.0 p at.1) in omega (arith, l))) in
        omega (arith, taken_within M.operation order (range_with_len 0 n) taken o, same o)

    -- what an order shows, its word tells
    shown_told : (p : ℕ) (behind : List ℕ) (to response saw : ℕ) → IsShown t M (first n) (p ∷ behind) to response saw → Tells t sight M.start stock (M.operation p) (M.operation to) response saw
    shown_told p behind to response saw shown =
        let at = shown.answered in
        let parts = split_at M.start (p ∷ behind) at.0 to response at.1 at.2 in
        let word : word_of (p ∷ behind) ≡ word_of parts.0 ++ M.operation to ∷ word_of parts.1 = ap word_of parts.2 ∙ map-append M.operation parts.0 (to ∷ parts.1) in
        let last = state_after t M.start (word_of (p ∷ behind)) in
        let known = from_first n to (shown.is_order.members at.0 to at.1) in (
          last,
          record {
            before = word_of parts.0;
            after = word_of parts.1;
            within = subst (IsWithin stock) word (order_within (p ∷ behind) shown.is_order);
            begins = subst (BeginsWith (M.operation p)) word refl;
            answer = parts.3;
            ends = ap (state_after t M.start) (sym word);
          },
          ap (λ (s : Sight). sees t s last) (sym (alike to known)) ∙ (ap (see t M to) (sym (after_is M.start (p ∷ behind))) ∙ shown.last_state),
        )

    pub joined_down : (p q : ℕ) → division.AreJoined t M (first n) p q → AreJoined t sight M.start stock (M.operation p) (M.operation q)
    joined_down p q j = record {
      to = M.operation j.to;
      response = j.response;
      saw = j.saw;
      told_f = shown_told p j.behind_p j.to j.response j.saw j.shown_p;
      told_g = shown_told q j.behind_q j.to j.response j.saw j.shown_q;
    }

    pub connected_down : (p q : ℕ) → division.AreConnected t M (first n) p q → AreConnected t sight M.start stock (M.operation p) (M.operation q)
    connected_down p q (division.AreConnected.Itself x) = Itself (M.operation x)
    connected_down p q (division.AreConnected.ByWayOf x y z j a) = ByWayOf (M.operation x) (M.operation y) (M.operation z) (joined_down x y j) (connected_down y z a)

    -- ---- an order for a word
    op_at : (o a k : ℕ) → 1 ≤ times o (map M.operation (range_with_len a k)) → (d : ℕ) × (a ≤ d) × (d < a + k) × (M.operation d ≡ o)
    op_at o a zero l = absurd (omega (arith, l, times_none o))
    op_at o a (suc k) l = elim (same_or (M.operation a) o) [
      | inl e ↦ (a, omega arith, omega arith, e)
      | inr u ↦ (let r = op_at o (a + 1) k (omega (arith, l, times_cons o (M.operation a) (map M.operation (range_with_len (a + 1) k)), one_else o (M.operation a) u)) in (r.0, omega (arith, r.1), omega (arith, r.2), r.3))
    ]

    pub process_of : (o : ℕ) → 1 ≤ times o stock → (d : ℕ) × (d < n) × (M.operation d ≡ o)
    process_of o l = let r = op_at o 0 n (omega (arith, l, same o)) in (r.0, omega (arith, r.2), r.3)

    record OrderFor (j : ℕ) (before behind : List ℕ) : Type 0 where
      front : List ℕ
      back : List ℕ
      order : IsOrderOf (first n) (front ++ j ∷ back)
      front_is : word_of front ≡ before
      back_is : word_of back ≡ behind

    order_for : (j : ℕ) → j < n → (before behind : List ℕ) → IsWithin stock (before ++ M.operation j ∷ behind) → OrderFor j before behind
    order_for j l before behind w =
        let range = range_with_len 0 n in
        let f : ℕ → ℕ = λ p. M.operation p in
        let long : j < length range = omega (arith, l, length-range_with_len 0 n) in
        let at : get_or range j 0 ≡ j = get_or-range_with_len 0 n j 0 l ∙ omega arith in
        let taken = to_taken f (before ++ behind) (remove range j) (λ o.
        let e : one o (f (get_or range j 0)) ≡ one o (f j) = ap (λ (p : ℕ). one o (f p)) at in
        omega (arith, w o, e, same o, times_remove f o range j long, times_between o (f j) before behind, times_append o before behind)) in
        let all : IsTaken range (j ∷ taken.0) = (j, long, at, taken.1) in
        let differs = taken_differ (j ∷ taken.0) range (range_rises 0 n) all in
        let parts = map_parts f before behind taken.0 taken.2 in
        let spread = differ_spread j parts.0 parts.1 (subst (λ (xs : List ℕ). Differ (j ∷ xs)) parts.2 differs) in
        record {
          front = parts.0;
          back = parts.1;
          order = record {
            distinct = AllPairs-from_Pairs (λ x y. x ≢ y) (parts.0 ++ j ∷ parts.1) spread.0;
            members = λ k p e.
                let r = in_range 0 n p (taken_known (j ∷ taken.0) range p all (subst (λ (xs : List ℕ). IsIn p (j ∷ xs)) (sym parts.2) (spread_in p j parts.0 parts.1 (got_in (parts.0 ++ j ∷ parts.1) k p e)))) in
                has_first n p (omega (arith, r.1));
          };
          front_is = parts.3;
          back_is = parts.4;
        }

    -- the order begins with a process that has the first operation
    begins_with : (f : ℕ) (order : List ℕ) → BeginsWith f (word_of order) → (p : ℕ) × (behind : List ℕ) × (order ≡ p ∷ behind) × (M.operation p ≡ f)
    begins_with f [] b = absurd b
    begins_with f (p ∷ behind) b = (p, behind, refl, b)

    record ShownFirst (f x r saw : ℕ) : Type 0 where
      begin : ℕ
      behind : List ℕ
      begin_is : M.operation begin ≡ f
      begin_known : begin < n
      shown : IsShown t M (first n) (begin ∷ behind) x r saw

    -- what a word tells, some order shows any process that has the operation
    told_shown : (f o r saw x : ℕ) → x < n → M.operation x ≡ o → Tells t sight M.start stock f o r saw → ShownFirst f x r saw
    told_shown f o r saw x l e told =
        let s = told.1 in
        let order = order_for x l s.before s.after (subst (λ (y : ℕ). IsWithin stock (s.before ++ y ∷ s.after)) (sym e) s.within) in
        let whole = order.front ++ x ∷ order.back in
        let word : word_of whole ≡ s.before ++ o ∷ s.after = map-append M.operation order.front (x ∷ order.back) ∙ (rw (order.front_is, order.back_is, e) refl) in
        let begun = begins_with f whole (subst (BeginsWith f) (sym word) s.begins) in
        let shown : IsShown t M (first n) whole x r saw = record {
          is_order = order.order;
          answered = (length order.front, (answered_at M.start order.front order.back x).0, (answered_at M.start order.front order.back x).1 ∙ ap Some (rw (order.front_is, e) s.answer));
          last_state = ap (see t M x) (after_is M.start whole ∙ (ap (state_after t M.start) word ∙ s.ends)) ∙ (ap (λ (z : Sight). sees t z told.0) (alike x l) ∙ told.2);
        } in
        record {
          begin = begun.0;
          behind = begun.1;
          begin_is = begun.3;
          begin_known = from_first n begun.0 (order.order.members 0 begun.0 (ap (λ (ps : List ℕ). slice_get ps 0) begun.2));
          shown = subst (λ (ps : List ℕ). IsShown t M (first n) ps x r saw) begun.2 shown;
        }

    chained : (p q r : ℕ) → division.AreConnected t M (first n) p q → division.AreConnected t M (first n) q r → division.AreConnected t M (first n) p r
    chained p q r (division.AreConnected.Itself x) b = b
    chained p q r (division.AreConnected.ByWayOf x y z j a) b = division.AreConnected.ByWayOf x y r j (chained y z r a b)

    module _ (twins : (p q : ℕ) → p < n → q < n → M.operation p ≡ M.operation q → division.AreConnected t M (first n) p q) where
      pub connected_up : (f g : ℕ) → AreConnected t sight M.start stock f g → (p q : ℕ) → p < n → q < n → M.operation p ≡ f → M.operation q ≡ g → division.AreConnected t M (first n) p q
      connected_up f g (Itself h) p q l u e d = twins p q l u (e ∙ sym d)
      connected_up f g (ByWayOf x y z j a) p q l u e d =
          let to = process_of j.to (shows_asked t M.start stock x j.to j.response j.told_f.0 j.told_f.1) in
          let one = told_shown x j.to j.response j.saw to.0 to.1 to.2 j.told_f in
          let other = told_shown y j.to j.response j.saw to.0 to.1 to.2 j.told_g in
          chained p one.begin q (twins p one.begin l one.begin_known (e ∙ sym one.begin_is))
          (division.AreConnected.ByWayOf one.begin other.begin q
          (record { behind_p = one.behind; behind_q = other.behind; to = to.0; response = j.response; saw = j.saw; shown_p = one.shown; shown_q = other.shown })
          (connected_up y z a other.begin q other.begin_known u other.begin_is d))

      pub connected_by_operations : (p q : ℕ) → p < n → q < n → division.AreConnected t M (first n) p q ↔ AreConnected t sight M.start stock (M.operation p) (M.operation q)
      connected_by_operations p q l u = (connected_down p q, λ a. connected_up (M.operation p) (M.operation q) a p q l u refl refl)

  -- ---- processes with one operation
  third : (p q : ℕ) → (x : ℕ) × (x < 3) × (p ≢ x) × (q ≢ x)
  third zero zero = (1, omega arith, λ e. omega (arith, e), λ e. omega (arith, e))
  third zero (suc zero) = (2, omega arith, λ e. omega (arith, e), λ e. omega (arith, e))
  third zero (suc (suc q)) = (1, omega arith, λ e. omega (arith, e), λ e. omega (arith, e))
  third (suc zero) zero = (2, omega arith, λ e. omega (arith, e), λ e. omega (arith, e))
  third (suc (suc p)) zero = (1, omega arith, λ e. omega (arith, e), λ e. omega (arith, e))
  third (suc p) (suc q) = (0, omega arith, λ e. omega (arith, e), λ e. omega (arith, e))

  pub twins_of_three : (n : ℕ) → 3 ≤ n → (p q : ℕ) → p < n → q < n → M.operation p ≡ M.operation q → division.AreConnected t M (first n) p q
  twins_of_three n many p q l u e =
      let team = finest t M (first n) n (from_first n) in
      let witness = (coarser t M (first n) team.0 team.0 team.1).1 (λ x y h. h) in
      let x = third p q in
      (team.1 p q).0 (one_operation t M (first n) team.0 p q x.0 witness (has_first n p l) (has_first n q u) (has_first n x.0 (omega (arith, x.1, many))) x.2 x.3 e)
