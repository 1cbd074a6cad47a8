-- The last state of an order is a state of the type.
use Rattle.std.proofs.Common.{ℕ, ◌<◌, List, [], ◌∷◌, length, subst}
use Rattle.std.specs.List.{AllByRecursion}
use Rattle.std.proofs.lemmas.List.Elements.{All-get_or, recursion_from_All}
use Rattle.cn_table.specs.Run.{state_after}
use Rattle.cn_table.specs.TypeTable.{IsClosed, TypeTable, transition}
use Rattle.cn_choice.specs.declared.team.Team.{Team}
use Rattle.cn_choice.specs.OutcomeSets.{InOutcomeSet, operations_of}
use Rattle.cn_choice.specs.RawChoices.{IsRawChoice, RawChoice}
use Rattle.cn_unread.proofs.PairParts.{pair_parts}

pub last_known : (t : TypeTable) → IsClosed t → (os : List ℕ) (s : ℕ)
    → AllByRecursion (λ o. o < length t.operations) os → s < length t.states
    → state_after t s os < length t.states
last_known t closed [] s h k = k
last_known t closed (o ∷ os) s h k =
    last_known t closed os (transition t o s).1 h.1 (closed o s h.0 k)

pub operations_known : (t : TypeTable) (n : ℕ) (c : RawChoice) → IsRawChoice t n c → (order : List ℕ)
    → AllByRecursion (λ p. p < length c.operations) order
    → AllByRecursion (λ o. o < length t.operations) (operations_of c order)
operations_known t n c is [] h = tt
operations_known t n c is (p ∷ ps) h = (
  All-get_or (λ o. o < length t.operations) c.operations p 0 h.0 is.operations_known,
  operations_known t n c is ps h.1,
)

pub outcome_known : (t : TypeTable) → IsClosed t → (n : ℕ) (c : RawChoice) → IsRawChoice t n c
    → (team : Team) (j : ℕ) (pair : ℕ × ℕ) → InOutcomeSet t c team j pair
    → pair.1 < length t.states
outcome_known t closed n c is team j pair o =
    subst (λ (q : ℕ). q < length t.states) (pair_parts t c o.0 j pair o.3).1
    (last_known t closed (operations_of c o.0) c.state (operations_known t n c is o.0
    (recursion_from_All (λ p. p < length c.operations) o.0 o.1.known)) is.state_known)
