-- The pairs of an outcome set have responses and states of the type.
use Rattle.std.proofs.Common.{◌≡◌, ℕ, ◌<◌, ◌↔◌, List, [], ◌∷◌, length, get_or, refl, sym, subst, Bool, true, false, true≢false, not, nat_eq, cond, Some, IsTrue}
use Rattle.std.specs.List.{AllByRecursion}
use Rattle.std.proofs.lemmas.List.Elements.{All-from_recursion, All-get_or, recursion_from_All}
use Rattle.cn_table.specs.Run.{responses_along}
use Rattle.cn_table.specs.TypeTable.{IsRow, IsTypeTable, TypeTable, no_row, transition}
use Rattle.cn_table.proofs.ReachLemmas.{next_below}
use Rattle.cn_choice.specs.declared.team.Team.{Team}
use Rattle.cn_choice.specs.declared.team.Team.TheVariants.{A, B}
use Rattle.cn_choice.specs.OutcomeSets.{InOutcomeSet, operations_of, response_of}
use Rattle.cn_choice.specs.RawChoices.{IsRawChoice, RawChoice}
use Rattle.cn_outcomes.specs.PairSets.{Has}
use Rattle.cn_unread.proofs.Outcomes.{operations_known, outcome_known}
use Rattle.cn_unread.proofs.PairParts.{pair_parts}
use Rattle.cn_views.specs.VisibleChoices.{IsToldTo, MeetAlike}

response_below : (t : TypeTable) (o q : ℕ) → IsTypeTable t → o < length t.operations → q < length t.states → (transition t o q).0 < length t.responses
response_below t o q is known within =
    let row = All-get_or (IsRow (length t.states) (length t.responses)) t.operations o no_row known
    (All-from_recursion (IsRow (length t.states) (length t.responses)) t.operations is.rows)
    in
    All-get_or (λ r. r < length t.responses) (get_or t.operations o no_row).response q 0
    (subst (λ (k : ℕ). q < k) (sym row.response_len) within)
    (All-from_recursion (λ r. r < length t.responses) (get_or t.operations o no_row).response row.response)

module _ (t : TypeTable) (is : IsTypeTable t) where
  got_below : (order os : List ℕ) (j s r : ℕ) → AllByRecursion (λ o. o < length t.operations) os → s < length t.states
      → response_of j order (responses_along t s os) ≡ Some r → r < length t.responses
  got_below [] os j s r known within e = absurd (cc e)
  got_below (p ∷ ps) [] j s r known within e = absurd (cc e)
  got_below (p ∷ ps) (o ∷ os) j s r known within e = by_test (nat_eq p j) (got_below ps os j (transition t o s).1 r known.1 (next_below t o s is known.0 within)) e
    where
      by_test : (here : Bool) → (response_of j ps (responses_along t (transition t o s).1 os) ≡ Some r → r < length t.responses) → cond here (Some (transition t o s).0) (response_of j ps (responses_along t (transition t o s).1 os)) ≡ Some r → r < length t.responses
      by_test true later f = let same : (transition t o s).0 ≡ r = cc f in subst (λ (x : ℕ). x < length t.responses) same (response_below t o s is known.0 within)
      by_test false later f = later f

  module _ (n : ℕ) (c : RawChoice) (raw : IsRawChoice t n c) where
    pub pair_known : (team : Team) (j r q : ℕ) → InOutcomeSet t c team j (r, q) → (r < length t.responses) × (q < length t.states)
    pair_known team j r q o = (
      got_below o.0 (operations_of c o.0) j c.state r
          (operations_known t n c raw o.0 (recursion_from_All (λ p. p < length c.operations) o.0 o.1.known)) raw.state_known (pair_parts t c o.0 j (r, q) o.3).0,
      outcome_known t (λ o s l m. next_below t o s is l m) n c raw team j (r, q) o,
    )

    -- a process is told exactly if its outcome sets do not meet
    pub told : (looks : List ℕ) (j : ℕ) (set other : List ℕ) (meet : Bool) → ((r q : ℕ) → Has set r q ↔ InOutcomeSet t c A j (r, q))
        → ((r q : ℕ) → Has other r q ↔ InOutcomeSet t c B j (r, q)) → (IsTrue meet ↔ MeetAlike t looks set other) → IsTrue (not meet) ↔ IsToldTo t looks c j
    told looks j set other true a b exact = (
      λ f. absurd (true≢false (sym f)),
      λ apart. absurd (let m = exact.0 refl in apart m.2.0 m.0 m.2.3.0 ((a m.2.0 m.0).0 m.2.2) ((b m.2.0 m.2.3.0).0 m.2.3.2) m.2.3.3),
    )
    told looks j set other false a b exact = (
      λ _ r p q x y same.
          let here = pair_known A j r p x in
          let there = pair_known B j r q y in
          true≢false (sym (exact.1 (p, here.1, (r, here.0, (a r p).1 x, (q, there.1, (b r q).1 y, same))))),
      λ _. refl,
    )
