-- The teams of the processes that do the operations of a stock, one each.
use Rattle.std.proofs.Common.{ℕ, zero, suc, ◌≡◌, ◌≢◌, ◌↔◌, ◌<◌, ◌≤◌, ◌⊎◌, inl, inr, List, [], length, refl, sym, ap, ◌∙◌, subst, arith}
use Rattle.std.specs.Prelude.{slice_index}
use Rattle.cn_table.specs.TypeTable.{TypeTable, transition}
use Rattle.cn_meetings.specs.Division as division
use Rattle.cn_meetings.specs.Meeting.{Meeting, Sight}
use Rattle.cn_stocks.specs.Words.{HaveSame, IsKnown, times}
use Rattle.cn_stocks.proofs.Times.{place_in, times_of_place}
use Rattle.cn_stocks.proofs.WordOrders.{whole}
use Rattle.cn_divisions.specs.Counts.{AreTeams}
use Rattle.cn_divisions.specs.Divisions.{IsFinestOf, first, meeting_of, operations_of}
use Rattle.cn_divisions.specs.Joins.{AreComponents}
use Rattle.cn_divisions.proofs.Links.{connected_by_operations, twins_of_three}
use Rattle.cn_divisions.proofs.SameSizes.{differing_twins}
use Rattle.cn_divisions.proofs.Twins.{twins_connected}

-- the list at all its places
pub own_operations : (start : ℕ) (items : List ℕ) (sight : Sight) → operations_of (meeting_of start items sight) (length items) ≡ items
own_operations start items sight = whole (record { state = start; operations = items; marks = [] })

pub same_own : (start : ℕ) (items : List ℕ) (sight : Sight) → HaveSame items (operations_of (meeting_of start items sight) (length items))
same_own start items sight o = ap (times o) (sym (own_operations start items sight))

module _ (t : TypeTable) (sight : Sight) (start : ℕ) (items : List ℕ) where
  abbrev S : Meeting
  S = meeting_of start items sight

  twins : (n : ℕ) → (3 ≤ n) ⊎ ((n ≡ 2) × (slice_index items 0 ≢ slice_index items 1)) → (p q : ℕ) → p < n → q < n → S.operation p ≡ S.operation q → division.AreConnected t S (first n) p q
  twins n (inl three) p q l u e = twins_of_three t S n three p q l u e
  twins zero (inr two) p q l u e = absurd (omega (arith, l))
  twins (suc zero) (inr two) p q l u e = absurd (let w = two.0 in omega (arith, w))
  twins (suc (suc zero)) (inr two) p q l u e = differing_twins t S two.1 p q l u e
  twins (suc (suc (suc n))) (inr two) p q l u e = absurd (let w = two.0 in omega (arith, w))

  module _ (k : ℕ) (known : IsKnown k items) (few : k ≤ 8) (teams components : List ℕ) (are : (p : ℕ) → p < length items → slice_index teams p ≡ slice_index components (slice_index items p)) where
    small_item : (p : ℕ) → p < length items → slice_index items p < 8
    small_item p l = omega (arith, known (slice_index items p) (times_of_place items p l), few)

    pub finest_by_operation : (3 ≤ length items) ⊎ ((length items ≡ 2) × (slice_index items 0 ≢ slice_index items 1)) → AreComponents t sight start items 8 components
        → IsFinestOf t S (length items) (λ p. slice_index teams p)
    finest_by_operation many all p q l u =
        let linked = connected_by_operations t S (length items) sight (λ x m. refl) items (same_own start items sight) (twins (length items) many) p q l u in
        let here = all (slice_index items p) (slice_index items q) (small_item p l) (small_item q u) in (
          λ e. linked.1 (here.0 (sym (are p l) ∙ (e ∙ are q u))),
          λ c. are p l ∙ (here.1 (linked.0 c) ∙ sym (are q u)),
        )

    pub teams_small : length teams ≡ length items → ((f : ℕ) → f < 8 → slice_index components f < 8) → AreTeams teams
    teams_small long small team l =
        let at = place_in team teams l in
        let inside : at.0 < length items = (let u = at.1 in omega (arith, u, long)) in
        subst (λ (x : ℕ). x < 8) (sym (are at.0 inside) ∙ at.2) (small (slice_index items at.0) (small_item at.0 inside))

  pair_same : (teams : List ℕ) (R : Type 0) → (slice_index teams 0 ≡ slice_index teams 1) ↔ R → (p q : ℕ) → p < 2 → q < 2 → (slice_index teams p ≡ slice_index teams q) ↔ ((p ≡ q) ⊎ R)
  pair_same teams R same zero zero l u = (λ e. inl refl, λ h. refl)
  pair_same teams R same zero (suc zero) l u = (λ e. inr (same.0 e), λ h. elim h [ inl e ↦ absurd (omega (arith, e)) | inr r ↦ same.1 r ])
  pair_same teams R same (suc zero) zero l u = (λ e. inr (same.0 (sym e)), λ h. elim h [ inl e ↦ absurd (omega (arith, e)) | inr r ↦ sym (same.1 r) ])
  pair_same teams R same (suc zero) (suc zero) l u = (λ e. inl refl, λ h. refl)
  pair_same teams R same (suc (suc p)) q l u = absurd (omega (arith, l))
  pair_same teams R same zero (suc (suc q)) l u = absurd (omega (arith, u))
  pair_same teams R same (suc zero) (suc (suc q)) l u = absurd (omega (arith, u))

  pub finest_of_twins : (n : ℕ) → n ≡ 2 → slice_index items 0 ≡ slice_index items 1 → (teams : List ℕ)
      → (slice_index teams 0 ≡ slice_index teams 1) ↔ ((transition t (slice_index items 0) start).0 ≡ (transition t (slice_index items 0) (transition t (slice_index items 0) start).1).0)
      → IsFinestOf t S n (λ p. slice_index teams p)
  finest_of_twins zero two e teams same p q l u = absurd (omega (arith, two))
  finest_of_twins (suc zero) two e teams same p q l u = absurd (omega (arith, two))
  finest_of_twins (suc (suc zero)) two e teams same p q l u =
      let linked = twins_connected t S (slice_index items 0) refl (sym e) p q l u in
      let here = pair_same teams _ same p q l u in (λ x. linked.1 (here.0 x), λ c. here.1 (linked.0 c))
  finest_of_twins (suc (suc (suc n))) two e teams same p q l u = absurd (omega (arith, two))
