-- A type whose operations answer nothing is defended for no number.
use Rattle.std.proofs.Common.{◌≡◌, ◌≢◌, ℕ, suc, ◌<◌, [], ◌∷◌, length, refl, sym, ap}
use Rattle.std.proofs.Common.{◌∙◌, arith, Bool, cond, nat_eq, Some, None}
use Rattle.std.specs.Prelude.{slice_index}
use Rattle.std.proofs.lemmas.Bool.{eq-eqb, ne_eqb}
use Rattle.std.proofs.lemmas.List.Elements.{All-from_recursion, All-get_or}
use Rattle.cn_table.specs.Run.{state_after}
use Rattle.cn_table.specs.TypeTable.{IsClosed, TypeTable, transition}
use Rattle.cn_choice.specs.RawChoices.{IsRawChoice, RawChoice}
use Rattle.cn_choice.specs.Orders.{IsOrder}
use Rattle.cn_choice.proofs.OrderLemmas.AllOrders.{distinct_from}
use Rattle.cn_unread.specs.Types.{AnswersNothing}
use Rattle.cn_unread.specs.Undisturbed.{IsUnreadWitness, TellsApart, answer, last_state}
use Rattle.cn_unread.specs.Defended.{IsDefendedFor}
use Rattle.cn_unread.proofs.Outcomes.{last_known}
use Rattle.cn_unread.proofs.Play.{unread_from_defended}
use Rattle.cn_unread.proofs.Sides.{Sides, sides}

module _ (t : TypeTable) (closed : IsClosed t) (nothing : AnswersNothing t) where
  none_tells : (m p q : ℕ) → p < length t.states → q < length t.states → TellsApart t (suc m) p q → ⊥
  none_tells m p q u v h = h.5 (nothing h.1 (state_after t p h.0) (state_after t q h.0) h.3
      (last_known t closed h.0 p h.2 u) (last_known t closed h.0 q h.2 v))

  module _ (n : ℕ) (c : RawChoice) (is : IsRawChoice t n c) where
    abbrev op : ℕ → ℕ
    op i = slice_index c.operations i

    abbrev s : Sides n c
    s = sides t n c is

    abbrev a : ℕ
    a = s.a

    abbrev b : ℕ
    b = s.b

    la : a < length c.operations
    la = omega (arith, s.a_known, is.one_operation_each)

    lb : b < length c.operations
    lb = omega (arith, s.b_known, is.one_operation_each)

    known_op : (i : ℕ) → i < length c.operations → op i < length t.operations
    known_op i l =
        All-get_or (λ o. o < length t.operations) c.operations i 0 l is.operations_known

    two : (i j : ℕ) → i < length c.operations → j < length c.operations → i ≢ j
        → IsOrder (length c.operations) (i ∷ j ∷ [])
    two i j li lj d = record {
      someone = λ e. absurd (cc e);
      known = All-from_recursion (λ p. p < length c.operations) (i ∷ j ∷ []) (li, (lj, tt));
      distinct = distinct_from (i ∷ j ∷ []) ((d, tt), (tt, tt));
    }

    last_two : (i j : ℕ) → i < length c.operations → j < length c.operations
        → last_state t c (i ∷ j ∷ []) < length t.states
    last_two i j li lj = last_known t closed (op i ∷ op j ∷ []) c.state
        (known_op i li, (known_op j lj, tt)) is.state_known

    -- process a gets the same response, whether it moves first or second
    same_answer : answer t c (a ∷ b ∷ []) a ≡ answer t c (b ∷ a ∷ []) a
    same_answer =
        ap (λ (x : Bool). cond x (Some (transition t (op a) c.state).0)
        (cond (nat_eq b a) (Some (transition t (op b) (transition t (op a) c.state).1).0) None))
        (eq-eqb a a refl)
        ∙ (ap Some (nothing (op a) c.state (transition t (op b) c.state).1 (known_op a la)
        is.state_known (closed (op b) c.state (known_op b lb) is.state_known))
        ∙ sym (ap (λ (x : Bool). cond x (Some (transition t (op b) c.state).0) (cond (nat_eq a a)
        (Some (transition t (op a) (transition t (op b) c.state).1).0) None))
        (ne_eqb b a (λ e. s.apart (sym e)))
        ∙ ap (λ (x : Bool). cond x (Some (transition t (op a) (transition t (op b) c.state).1).0)
        None) (eq-eqb a a refl)))

    no_unread_witness : IsUnreadWitness t c → ⊥
    no_unread_witness w = none_tells 0 (last_state t c (a ∷ b ∷ [])) (last_state t c (b ∷ a ∷ []))
        (last_two a b la lb) (last_two b a lb la)
        (w (a ∷ b ∷ []) (b ∷ a ∷ []) (a ∷ []) (two a b la lb s.apart)
        (two b a lb la (λ e. s.apart (sym e))) (a, refl, s.a_mark) (b, refl, s.b_mark) (record {
          known = All-from_recursion (λ p. p < length c.operations) (a ∷ []) (la, tt);
          distinct = distinct_from (a ∷ []) (tt, tt);
          same = All-from_recursion (λ p. answer t c (a ∷ b ∷ []) p ≡ answer t c (b ∷ a ∷ []) p)
              (a ∷ []) (same_answer, tt);
        }))

  pub none_defended : (n : ℕ) → IsDefendedFor t n → ⊥
  none_defended n d = let w = unread_from_defended t n d in no_unread_witness n w.0 w.1 w.2
