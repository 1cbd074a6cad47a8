-- With reads, a queue with room for one letter is discerning for each number: the first letter that
-- is put in stays.
use Rattle.std.proofs.Common.{◌≡◌, ℕ, zero, suc, ◌<◌, ◌≤◌, List, [], ◌∷◌, length, replicate, refl}
use Rattle.std.proofs.Common.{sym, ap, ◌∙◌, subst, arith, Some, All}
use Rattle.std.specs.Prelude.{slice_get, slice_index}
use Rattle.std.specs.List.{AllByRecursion}
use Rattle.std.proofs.lemmas.List.{get_or-replicate, length-replicate}
use Rattle.std.proofs.lemmas.List.Elements.{All-from_recursion, All-get_or, recursion_from_All}
use Rattle.std.proofs.lemmas.Option.{slice_get-get_or}
use Rattle.cn_table.specs.Run.{state_after}
use Rattle.cn_table.specs.TypeTable.{transition}
use Rattle.cn_choice.specs.declared.team.Team.{Team}
use Rattle.cn_choice.specs.declared.team.Team.TheVariants.{A, B}
use Rattle.cn_choice.specs.Discerning.{IsDiscerning, IsWitness}
use Rattle.cn_choice.specs.OutcomeSets.{InOutcomeSet, operations_of}
use Rattle.cn_choice.specs.RawChoices.{IsRawChoice, RawChoice}
use Rattle.cn_unread.specs.Examples.{queue_1}
use Rattle.cn_unread.specs.Undisturbed.{last_state}
use Rattle.cn_unread.proofs.PairParts.{pair_parts}
use Rattle.cn_unread.proofs.QueueTrap.{full_second}

-- a letter stays, whatever else is put in
stays : (os : List ℕ) (e : ℕ) → e < 2 → AllByRecursion (λ o. o < 2) os
    → state_after queue_1 (suc e) os ≡ suc e
stays [] e l h = refl
stays (o ∷ os) e l h =
    ap (λ (q : ℕ). state_after queue_1 q os) (full_second o e h.0 l).0 ∙ stays os e l h.1

same_team : {y z : Team} → Some y ≡ Some z → y ≡ z
same_team e = cc e

same_number : {m n : ℕ} → Some m ≡ Some n → m ≡ n
same_number e = cc e

module _ (m : ℕ) where
  abbrev others : List ℕ
  others = replicate (suc m) 1

  -- process 0 puts in an a, in team A; the others a b
  abbrev chosen : RawChoice
  chosen = record {
    state = 0;
    operations = 0 ∷ others;
    marks = A ∷ replicate (suc m) B;
  }

  abbrev n : ℕ
  n = length chosen.operations

  long : length others ≡ suc m
  long = length-replicate (suc m) 1

  op_many : (y : ℕ) → suc y < n → slice_index chosen.operations (suc y) ≡ 1
  op_many y u = get_or-replicate (suc m) y 1 0 (omega (arith, u, long))

  mark_many : (y : ℕ) → suc y < n → slice_get chosen.marks (suc y) ≡ Some B
  mark_many y u = slice_get-get_or chosen.marks (suc y) A
      (omega (arith, u, long, length-replicate (suc m) B))
      ∙ ap Some (get_or-replicate (suc m) y B A (omega (arith, u, long)))

  ones : (k : ℕ) → AllByRecursion (λ o. o < 2) (replicate k 1)
  ones zero = tt
  ones (suc k) = (omega arith, ones k)

  more : (k : ℕ) → AllByRecursion (λ o. o < 3) (replicate k 1)
  more zero = tt
  more (suc k) = (omega arith, more k)

  is_raw : IsRawChoice queue_1 (suc (suc m)) chosen
  is_raw = record {
    state_known = omega arith;
    operations_known =
        All-from_recursion (λ o. o < 3) chosen.operations (omega arith, more (suc m));
    one_operation_each = ap suc long;
    one_team_each = ap suc (length-replicate (suc m) B);
    someone_in_a = (0, omega arith, refl);
    someone_in_b = (1, omega (arith, length-replicate (suc m) B), refl);
  }

  few : All (λ o. o < 2) chosen.operations
  few = All-from_recursion (λ o. o < 2) chosen.operations (omega arith, ones (suc m))

  ops_few : (order : List ℕ) → AllByRecursion (λ p. p < n) order
      → AllByRecursion (λ o. o < 2) (operations_of chosen order)
  ops_few [] h = tt
  ops_few (p ∷ order) h =
      (All-get_or (λ o. o < 2) chosen.operations p 0 h.0 few, ops_few order h.1)

  -- the state that is left where the team began
  abbrev left : Team → ℕ
  left A = 1
  left B = 2

  last : (side : Team) (order : List ℕ) → AllByRecursion (λ p. p < n) order → (first : ℕ)
      → slice_get order 0 ≡ Some first → slice_get chosen.marks first ≡ Some side
      → last_state queue_1 chosen order ≡ left side
  last side [] h first begins mark = absurd (cc begins)
  last side (zero ∷ order) h first begins mark =
      subst (λ (y : Team). last_state queue_1 chosen (0 ∷ order) ≡ left y)
      (same_team (ap (slice_get chosen.marks) (same_number begins) ∙ mark))
      (stays (operations_of chosen order) 0 (omega arith) (ops_few order h.1))
  last side (suc y ∷ order) h first begins mark =
      subst (λ (z : Team). last_state queue_1 chosen (suc y ∷ order) ≡ left z)
      (same_team (sym (mark_many y h.0) ∙ (ap (slice_get chosen.marks) (same_number begins) ∙ mark)))
      (ap (λ (o : ℕ). state_after queue_1 (transition queue_1 o 0).1 (operations_of chosen order))
      (op_many y h.0) ∙ stays (operations_of chosen order) 1 (omega arith) (ops_few order h.1))

  shown : (side : Team) (j : ℕ) (pair : ℕ × ℕ) → InOutcomeSet queue_1 chosen side j pair
      → pair.1 ≡ left side
  shown side j pair o = sym (pair_parts queue_1 chosen o.0 j pair o.3).1
      ∙ last side o.0 (recursion_from_All (λ p. p < n) o.0 o.1.known) o.2.0 o.2.1 o.2.2

  is_witness : IsWitness queue_1 chosen
  is_witness j pair a b = absurd (omega (arith, shown A j pair a, shown B j pair b))

pub queue_discerning : (n : ℕ) → 2 ≤ n → IsDiscerning queue_1 n
queue_discerning zero l = absurd (omega (arith, l))
queue_discerning (suc zero) l = absurd (omega (arith, l))
queue_discerning (suc (suc m)) l = (chosen m, is_raw m, is_witness m)
