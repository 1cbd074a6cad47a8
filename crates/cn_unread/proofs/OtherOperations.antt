-- In a witness without reads for three processes or more, no operation is in both teams.
use Rattle.std.proofs.Common.{◌≡◌, ◌≢◌, ℕ, ◌<◌, ◌≤◌, [], ◌∷◌, length, refl, sym, ap}
use Rattle.std.proofs.Common.{◌∙◌, arith, Bool, cond, Some, None}
use Rattle.std.specs.Prelude.{slice_get, slice_index}
use Rattle.std.proofs.lemmas.Bool.{ne_eqb}
use Rattle.std.proofs.lemmas.List.Elements.{All-from_recursion}
use Rattle.cn_table.specs.TypeTable.{TypeTable, transition}
use Rattle.cn_choice.specs.RawChoices.{IsRawChoice, RawChoice}
use Rattle.cn_choice.specs.declared.team.Team.TheVariants.{A, B}
use Rattle.cn_choice.specs.Orders.{IsOrder}
use Rattle.cn_choice.proofs.OrderLemmas.AllOrders.{distinct_from}
use Rattle.cn_unread.specs.Undisturbed.{IsUnreadWitness, answer, last_state}
use Rattle.cn_unread.proofs.Play.{told_apart}
use Rattle.cn_unread.proofs.Sides.{third}

module _ (t : TypeTable) (c : RawChoice) where
  -- a process that does not move alone gets no response
  unmoved : (i j : ℕ) → i ≢ j → answer t c (i ∷ []) j ≡ None
  unmoved i j d = ap (λ (x : Bool). cond x
      (Some (transition t (slice_index c.operations i) c.state).0) None) (ne_eqb i j d)

  alone : (i : ℕ) → i < length c.operations → IsOrder (length c.operations) (i ∷ [])
  alone i l = record {
    someone = λ e. absurd (cc e);
    known = All-from_recursion (λ p. p < length c.operations) (i ∷ []) (l, tt);
    distinct = distinct_from (i ∷ []) (tt, tt);
  }

  pub other_operations : (n : ℕ) → 3 ≤ n → IsRawChoice t n c → IsUnreadWitness t c → (a b : ℕ)
      → a < n → b < n → slice_get c.marks a ≡ Some A → slice_get c.marks b ≡ Some B
      → slice_index c.operations a ≢ slice_index c.operations b
  other_operations n many is w a b la lb in_a in_b same =
      let r = third a b in
      let j = r.0 in
      let lj : j < length c.operations = omega (arith, r.1, many, is.one_operation_each) in
      told_apart t (last_state t c (a ∷ [])) (last_state t c (b ∷ []))
      (ap (λ (o : ℕ). (transition t o c.state).1) same)
      (w (a ∷ []) (b ∷ []) (j ∷ []) (alone a (omega (arith, la, is.one_operation_each)))
      (alone b (omega (arith, lb, is.one_operation_each))) (a, refl, in_a) (b, refl, in_b)
      (record {
        known = All-from_recursion (λ p. p < length c.operations) (j ∷ []) (lj, tt);
        distinct = distinct_from (j ∷ []) (tt, tt);
        same = All-from_recursion (λ p. answer t c (a ∷ []) p ≡ answer t c (b ∷ []) p) (j ∷ [])
            (unmoved a j r.2 ∙ sym (unmoved b j r.3), tt);
      }))
