-- An order that is cut behind a process begins as before, and shows the process the same response.
use Rattle.std.proofs.Common.{◌≡◌, ◌≢◌, ℕ, ◌<◌, inl, inr, List, [], ◌∷◌, length, refl, sym, ap, ◌∙◌}
use Rattle.std.proofs.Common.{subst, Bool, true, false, cond, nat_eq, Option, Some, None}
use Rattle.std.specs.Prelude.{slice_get, slice_index}
use Rattle.std.specs.List.{AllByRecursion}
use Rattle.std.proofs.lemmas.Bool.{eqb-true}
use Rattle.std.proofs.lemmas.List.Elements.{recursion_from_All}
use Rattle.cn_table.specs.Run.{responses_along, state_after}
use Rattle.cn_table.specs.TypeTable.{IsClosed, TypeTable, transition}
use Rattle.cn_choice.specs.declared.team.Team.{Team}
use Rattle.cn_choice.specs.Orders.{IsOrder}
use Rattle.cn_choice.specs.OutcomeSets.{InOutcomeSet, operations_of, response_of}
use Rattle.cn_choice.specs.RawChoices.{IsRawChoice, RawChoice}
use Rattle.cn_choice.proofs.ListLemmas.Arrangements.{Differ}
use Rattle.cn_choice.proofs.ListLemmas.Members.{IsIn, each_at, each_from}
use Rattle.cn_choice.proofs.OrderLemmas.AllOrders.{differ_from}
use Rattle.cn_choice.proofs.OrderLemmas.LastMoves.{order_from, pair_whole}
use Rattle.cn_unread.proofs.Outcomes.{operations_known}
use Rattle.cn_unread.proofs.PairParts.{pair_parts}

module _ (t : TypeTable) (closed : IsClosed t) (c : RawChoice) (j : ℕ) where
  abbrev own : ℕ
  own = slice_index c.operations j

  -- what is left of the order up to process j, which gets the response r, from the state q on
  record Cut (order : List ℕ) (q r : ℕ) : Type 0 where
    pub head : ℕ
    pub tail : List ℕ
    pub before : ℕ
    pub known : before < length t.states
    pub response : (transition t own before).0 ≡ r
    pub shown : response_of j (head ∷ tail) (responses_along t q (operations_of c (head ∷ tail)))
        ≡ Some r
    pub last : state_after t q (operations_of c (head ∷ tail)) ≡ (transition t own before).1
    pub begins : slice_get order 0 ≡ Some head
    pub within : (x : ℕ) → IsIn x (head ∷ tail) → IsIn x order
    pub differ : Differ order → Differ (head ∷ tail)

  some_same : {x y : ℕ} → Some x ≡ Some y → x ≡ y
  some_same e = cc e

  here : (p : ℕ) (ps : List ℕ) (q r : ℕ) → nat_eq p j ≡ true
      → cond (nat_eq p j) (Some (transition t (slice_index c.operations p) q).0)
      (response_of j ps (responses_along t (transition t (slice_index c.operations p) q).1
      (operations_of c ps))) ≡ Some r → q < length t.states → Cut (p ∷ ps) q r
  here p ps q r is e l =
      let same : p ≡ j = eqb-true p j is in
      let response : (transition t own q).0 ≡ r =
      subst (λ (k : ℕ). (transition t (slice_index c.operations k) q).0 ≡ r) same
      (some_same (rw is at e)) in
      record {
        head = p;
        tail = [];
        before = q;
        known = l;
        response = response;
        shown = rw is (ap (λ (k : ℕ). Some (transition t (slice_index c.operations k) q).0) same
            ∙ ap Some response);
        last = ap (λ (k : ℕ). (transition t (slice_index c.operations k) q).1) same;
        begins = refl;
        within = λ x i. elim i [ inl e ↦ inl e | inr none ↦ absurd none ];
        differ = λ d. (tt, tt);
      }

  later : (p : ℕ) (ps : List ℕ) (q r : ℕ) → nat_eq p j ≡ false
      → Cut ps (transition t (slice_index c.operations p) q).1 r → Cut (p ∷ ps) q r
  later p ps q r is cut = record {
    head = p;
    tail = cut.head ∷ cut.tail;
    before = cut.before;
    known = cut.known;
    response = cut.response;
    shown = rw is cut.shown;
    last = cut.last;
    begins = refl;
    within = λ x i. elim i [ inl e ↦ inl e | inr k ↦ inr (cut.within x k) ];
    differ = λ d. (
      each_from (λ y. p ≢ y) (cut.head ∷ cut.tail) (λ y i. each_at (λ y. p ≢ y) ps y d.0
          (cut.within y i)),
      cut.differ d.1,
    );
  }

  cut : (order : List ℕ) (q r : ℕ)
      → AllByRecursion (λ o. o < length t.operations) (operations_of c order) → q < length t.states
      → response_of j order (responses_along t q (operations_of c order)) ≡ Some r
      → Cut order q r
  cut [] q r h l e = absurd (cc e)
  cut (p ∷ ps) q r h l e = by_test (nat_eq p j) refl
      (λ is. cut ps (transition t (slice_index c.operations p) q).1 r h.1
      (closed (slice_index c.operations p) q h.0 l) (rw is at e))
    where
      by_test : (b : Bool) → nat_eq p j ≡ b → (nat_eq p j ≡ false
          → Cut ps (transition t (slice_index c.operations p) q).1 r) → Cut (p ∷ ps) q r
      by_test true is rest = here p ps q r is e l
      by_test false is rest = later p ps q r is (rest is)

  module _ (n : ℕ) (is : IsRawChoice t n c) (team : Team) (r p : ℕ) where
    -- a process that gets a response gets it in an order in which it moves last
    pub moves_last : InOutcomeSet t c team j (r, p) → (q : ℕ) × (q < length t.states)
        × ((transition t own q).0 ≡ r) × InOutcomeSet t c team j (r, (transition t own q).1)
    moves_last o =
        let s = cut o.0 c.state r (operations_known t n c is o.0
        (recursion_from_All (λ x. x < length c.operations) o.0 o.1.known)) is.state_known
        (pair_parts t c o.0 j (r, p) o.3).0 in (
          s.before,
          s.known,
          s.response,
          (
            s.head ∷ s.tail,
            order_from (length c.operations) s.head s.tail (record {
              below = λ x i. each_at (λ x. x < length c.operations) o.0 x
                  (recursion_from_All (λ x. x < length c.operations) o.0 o.1.known) (s.within x i);
              differ = s.differ (differ_from o.0 o.1.distinct);
            }),
            (
              s.head,
              refl,
              subst (λ (x : ℕ). slice_get c.marks x ≡ Some team)
                  (some_same (sym o.2.1 ∙ s.begins)) o.2.2,
            ),
            pair_whole t c j (s.head ∷ s.tail) r (transition t own s.before).1 s.shown s.last,
          ),
        )
