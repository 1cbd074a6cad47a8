-- Processes that cannot tell two orders by their responses, and objects that can tell them.
-- Source: Ruppert, Determining consensus numbers, 2000: orders, teams and witnesses. Witnesses without
-- reads are new here.
use Rattle.std.specs.Prelude.{◌≡◌, ◌≢◌, ℕ, zero, suc, ◌<◌, List, length, Option}
use Rattle.std.specs.List.{AllByRecursion, IsDistinct}
use Rattle.std.specs.Prelude.{All, nat_eq}
use Rattle.cn_table.specs.TypeTable.{TypeTable, transition}
use Rattle.cn_table.specs.Run.{responses_along, state_after}
use Rattle.cn_choice.specs.declared.team.Team.TheVariants.{A, B}
use Rattle.cn_choice.specs.Orders.{IsOrder}
use Rattle.cn_choice.specs.OutcomeSets.{BeginsIn, operations_of, response_of}
use Rattle.cn_choice.specs.RawChoices.{IsRawChoice, RawChoice}

-- these are operations of the type
abbrev pub AreOperations : TypeTable → List ℕ → Type 0
AreOperations t os = AllByRecursion (λ o. o < length t.operations) os

-- the operations get the same responses from p as from q
abbrev pub IsQuiet : TypeTable → ℕ → ℕ → List ℕ → Type 0
IsQuiet t p q os = responses_along t p os ≡ responses_along t q os

-- the operation gets another response in p than in q
abbrev pub IsTellingOperation : TypeTable → ℕ → ℕ → ℕ → Type 0
IsTellingOperation t p q o = (transition t o p).0 ≢ (transition t o q).0

-- Objects in the states p and q can tell themselves apart to m processes, one after the other. Each
-- process applies operations that do not tell them apart, and then one that does. Whether this last
-- one is applied to both objects or to one of them alone, the rest of the processes can still be
-- told.
abbrev pub TellsApart : TypeTable → ℕ → ℕ → ℕ → Type 0
TellsApart t zero p q = Unit {0}
TellsApart t (suc m) p q = (os : List ℕ) × (o : ℕ) × AreOperations t os × (o < length t.operations)
    × IsQuiet t p q os × IsTellingOperation t (state_after t p os) (state_after t q os) o
    × TellsApart t m (transition t o (state_after t p os)).1 (transition t o (state_after t q os)).1
    × TellsApart t m (transition t o (state_after t p os)).1 (state_after t q os)
    × TellsApart t m (state_after t p os) (transition t o (state_after t q os)).1

-- the state of the object after the processes have moved in this order
abbrev pub last_state : TypeTable → RawChoice → List ℕ → ℕ
last_state t c order = state_after t c.state (operations_of c order)

-- the response to process j in this order, if it is in the order
abbrev pub answer : TypeTable → RawChoice → List ℕ → ℕ → Option ℕ
answer t c order j = response_of j order (responses_along t c.state (operations_of c order))

-- these processes, none of them twice, cannot tell one order from the other by their responses:
-- each moves in neither, or gets the same response in both
pub record AreUndisturbed (t : TypeTable) (c : RawChoice) (alpha beta : List ℕ) (js : List ℕ)
    : Type 0 where
  pub known : All (λ j. j < length c.operations) js
  pub distinct : IsDistinct nat_eq js
  pub same : All (λ j. answer t c alpha j ≡ answer t c beta j) js

-- the processes that cannot tell one order, which begins in team A, from another, which begins in
-- team B, can be told by the object
abbrev pub IsUnreadWitness : TypeTable → RawChoice → Type 0
IsUnreadWitness t c = (alpha beta js : List ℕ) → IsOrder (length c.operations) alpha
    → IsOrder (length c.operations) beta → BeginsIn c A alpha → BeginsIn c B beta
    → AreUndisturbed t c alpha beta js
    → TellsApart t (length js) (last_state t c alpha) (last_state t c beta)

-- some raw choice for n processes is a witness without reads
abbrev pub IsUnreadDiscerning : TypeTable → ℕ → Type 0
IsUnreadDiscerning t n = (c : RawChoice) × IsRawChoice t n c × IsUnreadWitness t c
