-- A witness needs no reads where responses, or operations that change nothing, tell the state.
use Rattle.std.proofs.Common.{◌≡◌, ℕ, ◌<◌, List, [], length, sym, ap, ◌∙◌, subst, arith}
use Rattle.std.specs.Prelude.{slice_index}
use Rattle.std.proofs.lemmas.List.Elements.{All-get_or}
use Rattle.cn_table.specs.TypeTable.{IsClosed, TypeTable, transition}
use Rattle.cn_choice.specs.declared.team.Team.TheVariants.{A, B}
use Rattle.cn_choice.specs.Discerning.{IsDiscerning}
use Rattle.cn_choice.specs.OutcomeSets.{InOutcomeSet}
use Rattle.cn_unread.specs.Collects.{AreLooks, IsVisibleFor}
use Rattle.cn_unread.specs.Telling.{LooksTellStates, ResponsesTellStates}
use Rattle.cn_unread.proofs.CutOrders.{moves_last}
use Rattle.cn_unread.proofs.Outcomes.{outcome_known}
use Rattle.cn_unread.proofs.ViewWitnesses.{takes_part}

pub by_responses : (t : TypeTable) (n : ℕ) → IsClosed t → ResponsesTellStates t → IsDiscerning t n
    → IsVisibleFor t n
by_responses t n closed tells d = (
  [],
  λ i l. absurd (omega (arith, l)),
  d.0,
  d.1,
  λ j r p q a b alike. (let x = moves_last t closed d.0 j n d.1 A r p a in
      let y = moves_last t closed d.0 j n d.1 B r q b in
      d.2 j (r, (transition t (slice_index d.0.operations j) x.0).1) x.3
      (subst (λ (s : ℕ). InOutcomeSet t d.0 B j (r, s)) (tells (slice_index d.0.operations j) y.0 x.0
      (All-get_or (λ o. o < length t.operations) d.0.operations j 0 (takes_part t d.0 A j (r, p) a)
      d.1.operations_known) y.1 x.1 (y.2 ∙ sym x.2)) y.3)),
)

pub by_looks : (t : TypeTable) (n : ℕ) (looks : List ℕ) → IsClosed t → AreLooks t looks
    → LooksTellStates t looks → IsDiscerning t n → IsVisibleFor t n
by_looks t n looks closed are tell d = (
  looks,
  are,
  d.0,
  d.1,
  λ j r p q a b alike. d.2 j (r, p) a
      (subst (λ (s : ℕ). InOutcomeSet t d.0 B j (r, s)) (sym (tell p q
      (outcome_known t closed n d.0 d.1 A j (r, p) a) (outcome_known t closed n d.0 d.1 B j (r, q) b)
      alike)) b),
)
