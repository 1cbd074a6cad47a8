-- Choices and operations of a table.
use Rattle.std.proofs.Common.{ℕ, ◌<◌, ◌≤◌, List, [], ◌∷◌, length, All, arith, subst, sym}
use Rattle.std.proofs.lemmas.List.Elements.{All-cons, All-head, All-nil, All-tail}
use Rattle.cn_table.specs.TypeTable.{TypeTable}
use Rattle.cn_table.specs.declared.elements.Operation.{Operation}
use Rattle.cn_choice.specs.Canonical.{Choice, FitsTable, IsChoiceFor, raw_choice_of}
use Rattle.cn_choice.specs.RawChoices.{IsRawChoice}
use Rattle.cn_unread_reasons.specs.Known.{IsKnownOperation}
use Rattle.cn_unread_reasons.specs.UnreadWitnesses.{numbers_of}

pub fits_table : (t : TypeTable) (n : ℕ) (c : Choice) → IsChoiceFor t n c → IsRawChoice t n (raw_choice_of c) → 2 ≤ n → n ≤ 8 → FitsTable t c
fits_table t n c is raw some few = record {
  fits = subst (λ (m : ℕ). IsRawChoice t m (raw_choice_of c)) (sym is.all) raw;
  some = omega (arith, is.all, some);
  few = omega (arith, is.all, few);
}

pub known_numbers : (t : TypeTable) (os : List Operation) → All (λ o. o < length t.operations) (numbers_of os) → All (IsKnownOperation t) os
known_numbers t [] known = All-nil (IsKnownOperation t)
known_numbers t (o ∷ os) known =
    All-cons (IsKnownOperation t) o os (All-head (λ (k : ℕ). k < length t.operations) o.0 (numbers_of os) known) (known_numbers t os (All-tail (λ (k : ℕ). k < length t.operations) o.0 (numbers_of os) known))
