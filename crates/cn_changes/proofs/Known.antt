-- Changes and their targets are of the type.
use Rattle.std.proofs.Common.{◌≡◌, ℕ, ◌<◌, [], ◌∷◌, length, take, All, Bool, true, false, refl, subst, sym}
use Rattle.std.specs.List.{AllByRecursion}
use Rattle.std.proofs.lemmas.List.{length-set}
use Rattle.std.proofs.lemmas.List.Elements.{All-from_recursion}
use Rattle.cn_table.specs.TypeTable.{TypeTable}
use Rattle.cn_changes.specs.Changes.{IsChange, IsTarget, change_if_other, changes_of, changes_to, is_other, target, targets_in, targets_of, targets_of_operation, with_change}
use Rattle.cn_changes.specs.Served.{LeadsTo}
use Rattle.cn_changes.specs.Pairs.{change_pairs, is_before, pair_with, pairs_with}
use Rattle.cn_changes.specs.declared.change.Change.{Change}
use Rattle.cn_changes.specs.declared.pairs.ChangePair.{ChangePair}
use Rattle.cn_changes.specs.declared.targets.Target.{Target}
use Rattle.cn_changes.proofs.Cutting.{each_of_front, each_part}
use Rattle.cn_changes.proofs.Ranges.{each_in_range}

each_target : (t : TypeTable) → AllByRecursion (IsTarget t) (targets_of t)
each_target t =
    each_in_range (IsTarget t) (targets_of_operation t) (length t.operations) (λ o lo.
    each_in_range (IsTarget t) (targets_in t o) (length t.states) (λ q lq.
    each_in_range (IsTarget t) (λ next. target o q next ∷ []) (length t.states) (λ next ln.
    (record { known_operation = lo; known_state = lq; known_next = ln }, tt))))

pub targets_known : (t : TypeTable) → All (IsTarget t) (targets_of t)
targets_known t = All-from_recursion (IsTarget t) (targets_of t) (each_target t)

one_change : (t : TypeTable) (x : Target) (r : ℕ) → IsTarget t x → r < length t.responses → (b : Bool) → b ≡ is_other t x r → AllByRecursion (IsChange t) (change_if_other t x r)
one_change t x r is l true e = rw (← e) (record { known_operation = is.known_operation; known_state = is.known_state; known_response = l; known_next = is.known_next }, tt)
one_change t x r is l false e = rw (← e) tt

each_change : (t : TypeTable) (x : Target) → IsTarget t x → AllByRecursion (IsChange t) (changes_to t x)
each_change t x is = each_in_range (IsChange t) (change_if_other t x) (length t.responses) (λ r l. one_change t x r is l (is_other t x r) refl)

pub changes_known : (t : TypeTable) (x : Target) → IsTarget t x → All (IsChange t) (changes_to t x)
changes_known t x is = All-from_recursion (IsChange t) (changes_to t x) (each_change t x is)

leads : (t : TypeTable) (x : Target) (r : ℕ) (b : Bool) → b ≡ is_other t x r → AllByRecursion (LeadsTo x) (change_if_other t x r)
leads t x r true e = rw (← e) (refl, tt)
leads t x r false e = rw (← e) tt

pub changes_lead : (t : TypeTable) (x : Target) → All (LeadsTo x) (changes_to t x)
changes_lead t x =
    All-from_recursion (LeadsTo x) (changes_to t x) (each_in_range (LeadsTo x) (change_if_other t x) (length t.responses) (λ r l. leads t x r (is_other t x r) refl))

-- a change of the type is one of the type with another change
pub still_known : (t : TypeTable) (c d : Change) → IsChange t d → IsChange (with_change t c) d
still_known t c d is = record {
  known_operation = subst (λ (n : ℕ). d.target.operation.0 < n) (sym (length-set t.operations c.target.operation.0 _)) is.known_operation;
  known_state = is.known_state;
  known_response = is.known_response;
  known_next = is.known_next;
}

-- ---- pairs

abbrev pub IsKnownPair : TypeTable → ChangePair → Type 0
IsKnownPair t pair = IsChange t pair.first × IsChange t pair.second

each_change_of : (t : TypeTable) → AllByRecursion (IsChange t) (changes_of t)
each_change_of t = each_part (IsTarget t) (IsChange t) (changes_to t) (targets_of t) (each_target t) (each_change t)

one_pair : (t : TypeTable) (c d : Change) → IsChange t c → IsChange t d → (b : Bool) → b ≡ is_before c d → AllByRecursion (IsKnownPair t) (pair_with c d)
one_pair t c d is_c is_d true e = rw (← e) ((is_c, is_d), tt)
one_pair t c d is_c is_d false e = rw (← e) tt

each_pair : (t : TypeTable) → AllByRecursion (IsKnownPair t) (change_pairs t)
each_pair t =
    each_part (IsChange t) (IsKnownPair t) (pairs_with (changes_of t)) (changes_of t) (each_change_of t) (λ c is_c.
    each_part (IsChange t) (IsKnownPair t) (pair_with c) (changes_of t) (each_change_of t) (λ d is_d. one_pair t c d is_c is_d (is_before c d) refl))

pub pairs_known : (t : TypeTable) (n : ℕ) → All (IsKnownPair t) (take n (change_pairs t))
pairs_known t n = All-from_recursion (IsKnownPair t) (take n (change_pairs t)) (each_of_front (IsKnownPair t) n (change_pairs t) (each_pair t))
