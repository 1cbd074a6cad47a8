-- Two processes that take a letter out of a queue tell by their responses which was first.
use Rattle.std.proofs.Common.{◌≡◌, ◌≢◌, ℕ, zero, suc, ◌<◌, List, [], ◌∷◌, refl}
use Rattle.std.proofs.Common.{sym, ap, ◌∙◌, subst, arith, Option, Some, None}
use Rattle.std.specs.Prelude.{slice_get}
use Rattle.std.specs.List.{AllByRecursion}
use Rattle.std.proofs.lemmas.List.Elements.{All-from_recursion, recursion_from_All}
use Rattle.cn_table.specs.Run.{responses_along}
use Rattle.cn_choice.specs.declared.team.Team.{Team}
use Rattle.cn_choice.specs.declared.team.Team.TheVariants.{A, B}
use Rattle.cn_choice.specs.OutcomeSets.{InOutcomeSet, operations_of, response_of}
use Rattle.cn_choice.specs.RawChoices.{IsRawChoice, RawChoice}
use Rattle.cn_choice.proofs.ListLemmas.Arrangements.{Differ}
use Rattle.cn_choice.proofs.OrderLemmas.AllOrders.{differ_from, fits_below}
use Rattle.cn_choice.proofs.OrderLemmas.Walks.{pair_takes_part}
use Rattle.cn_unread.specs.Examples.{queue_1}
use Rattle.cn_unread.specs.Views.{IsViewDiscerning}
use Rattle.cn_unread.proofs.PairParts.{pair_parts}

abbrev two : RawChoice
two = record { state = 1; operations = 2 ∷ 2 ∷ []; marks = A ∷ B ∷ [] }

-- what process j is answered where this team began: the letter, or that the queue is empty
abbrev answered : Team → ℕ → ℕ
answered A zero = 3
answered A (suc j) = 2
answered B zero = 2
answered B (suc j) = 3

abbrev told : List ℕ → ℕ → Option ℕ
told order j = response_of j order (responses_along queue_1 1 (operations_of two order))

same_team : {y z : Team} → Some y ≡ Some z → y ≡ z
same_team e = cc e

same_number : {m n : ℕ} → Some m ≡ Some n → m ≡ n
same_number e = cc e

nothing : {X : Type 0} {r : ℕ} → None ≡ Some r → X
nothing e = absurd (cc e)

far : {X : Type 0} (i : ℕ) → suc (suc i) < 2 → X
far i l = absurd (omega (arith, l))

too_long : {X : Type 0} (p q s : ℕ) (order : List ℕ)
    → AllByRecursion (λ x. x < 2) (p ∷ q ∷ s ∷ order) → Differ (p ∷ q ∷ s ∷ order) → X
too_long p q s order h d = absurd (omega (arith, fits_below 2 (p ∷ q ∷ s ∷ order) h d))

from_zero : (order : List ℕ) → AllByRecursion (λ x. x < 2) (0 ∷ order) → Differ (0 ∷ order)
    → (j r : ℕ) → j < 2 → told (0 ∷ order) j ≡ Some r → r ≡ answered A j
from_zero [] h d zero r l e = sym (same_number e)
from_zero [] h d (suc zero) r l e = nothing e
from_zero [] h d (suc (suc j)) r l e = far j l
from_zero (zero ∷ []) h d j r l e = absurd (d.0.0 refl)
from_zero (suc zero ∷ []) h d zero r l e = sym (same_number e)
from_zero (suc zero ∷ []) h d (suc zero) r l e = sym (same_number e)
from_zero (suc zero ∷ []) h d (suc (suc j)) r l e = far j l
from_zero (suc (suc q) ∷ []) h d j r l e = far q h.1.0
from_zero (q ∷ s ∷ order) h d j r l e = too_long 0 q s order h d

from_one : (order : List ℕ) → AllByRecursion (λ x. x < 2) (1 ∷ order) → Differ (1 ∷ order)
    → (j r : ℕ) → j < 2 → told (1 ∷ order) j ≡ Some r → r ≡ answered B j
from_one [] h d zero r l e = nothing e
from_one [] h d (suc zero) r l e = sym (same_number e)
from_one [] h d (suc (suc j)) r l e = far j l
from_one (zero ∷ []) h d zero r l e = sym (same_number e)
from_one (zero ∷ []) h d (suc zero) r l e = sym (same_number e)
from_one (zero ∷ []) h d (suc (suc j)) r l e = far j l
from_one (suc zero ∷ []) h d j r l e = absurd (d.0.0 refl)
from_one (suc (suc q) ∷ []) h d j r l e = far q h.1.0
from_one (q ∷ s ∷ order) h d j r l e = too_long 1 q s order h d

by_order : (side : Team) (order : List ℕ) → AllByRecursion (λ x. x < 2) order → Differ order
    → (first : ℕ) → slice_get order 0 ≡ Some first → slice_get two.marks first ≡ Some side
    → (j r : ℕ) → j < 2 → told order j ≡ Some r → r ≡ answered side j
by_order side [] h d first begins mark j r l e = absurd (cc begins)
by_order side (zero ∷ order) h d first begins mark j r l e =
    subst (λ (y : Team). r ≡ answered y j)
    (same_team (ap (slice_get two.marks) (same_number begins) ∙ mark)) (from_zero order h d j r l e)
by_order side (suc zero ∷ order) h d first begins mark j r l e =
    subst (λ (y : Team). r ≡ answered y j)
    (same_team (ap (slice_get two.marks) (same_number begins) ∙ mark)) (from_one order h d j r l e)
by_order side (suc (suc p) ∷ order) h d first begins mark j r l e = far p h.0

seen : (side : Team) (j r q : ℕ) → InOutcomeSet queue_1 two side j (r, q)
    → (j < 2) × (r ≡ answered side j)
seen side j r q o =
    let l : j < 2 = pair_takes_part queue_1 two 2 o.0 j (r, q) o.1.known o.3 in (
      l,
      by_order side o.0 (recursion_from_All (λ x. x < 2) o.0 o.1.known) (differ_from o.0 o.1.distinct)
          o.2.0 o.2.1 o.2.2 j r l (pair_parts queue_1 two o.0 j (r, q) o.3).0,
    )

apart : (j : ℕ) → answered A j ≢ answered B j
apart zero e = absurd (omega (arith, e))
apart (suc j) e = absurd (omega (arith, e))

is_two : IsRawChoice queue_1 2 two
is_two = record {
  state_known = omega arith;
  operations_known =
      All-from_recursion (λ o. o < 3) (2 ∷ 2 ∷ []) (omega arith, (omega arith, tt));
  one_operation_each = refl;
  one_team_each = refl;
  someone_in_a = (0, omega arith, refl);
  someone_in_b = (1, omega arith, refl);
}

pub queue_views : IsViewDiscerning queue_1 2
queue_views = (
  λ o r. None,
  λ o r v e. nothing e,
  two,
  is_two,
  λ j r p q a b same. apart j (sym (seen A j r p a).1 ∙ (seen B j r q b).1),
)
