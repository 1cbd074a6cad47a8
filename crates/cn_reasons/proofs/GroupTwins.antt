-- The processes of a group see the same, since neighbours in it are twins.
use Rattle.std.proofs.Common.{◌≡◌, ◌∙◌, ◌==◌, ℕ, zero, suc, ◌+◌, ◌-◌, ◌<◌, ◌≤◌, refl, ap, sym, arith, Bool, true, false, cond, Some}
use Rattle.std.proofs.Common.{List, [], ◌∷◌, ◌++◌, length, length-append, length-drop, drop, replicate, All, Contains}
use Rattle.std.specs.Prelude.{slice_get, slice_index}
use Rattle.std.proofs.lemmas.Bool.{eqb-true}
use Rattle.std.proofs.lemmas.List.{get_or_append_left, get_or-append_right, get_or-drop}
use Rattle.std.proofs.lemmas.List.Elements.{All-append, All-cons, All-contains, All-nil}
use Rattle.std.proofs.lemmas.List.Sums.{prefix_len-le-length, prefix_len_passes}
use Rattle.cn_table.specs.TypeTable.{TypeTable}
use Rattle.cn_choice.specs.Canonical.{Choice, raw_choice_of}
use Rattle.cn_choice.specs.declared.team.Team.{Team}
use Rattle.cn_choice.specs.declared.team.Team.TheVariants.{A, B}
use Rattle.cn_outcomes.specs.Twins.{AreTwins}
use Rattle.cn_reasons.specs.Groups.{alike, begins_group, group_at, group_if, groups, groups_of}
use Rattle.cn_reasons.specs.Sights.{sights}
use Rattle.cn_reasons.specs.declared.group.Group.{Group}
use Rattle.cn_reasons.proofs.Pieces.{All-pieces}

marks_front : (a i : ℕ) (rest : List Team) → i < a → slice_get (replicate a A ++ rest) i ≡ Some A
marks_front zero i rest l = absurd (omega (arith, l))
marks_front (suc a) zero rest l = refl
marks_front (suc a) (suc i) rest l = marks_front a i rest (omega (arith, l))

marks_back : (a b i : ℕ) → a ≤ i → i < a + b → slice_get (replicate a A ++ replicate b B) i ≡ Some B
marks_back zero zero i l u = absurd (omega (arith, u))
marks_back zero (suc b) zero l u = refl
marks_back zero (suc b) (suc i) l u = marks_back zero b i (omega arith) (omega (arith, u))
marks_back (suc a) b zero l u = absurd (omega (arith, l))
marks_back (suc a) b (suc i) l u = marks_back a b i (omega (arith, l)) (omega (arith, u))

-- each place of a group has its operation
same_operation : (operations : List ℕ) (k q : ℕ) → k < length operations → k ≤ q → q < k + alike (drop k operations) (slice_index operations k)
    → (q < length operations) × (slice_index operations q ≡ slice_index operations k)
same_operation operations k q less from to =
    let own = slice_index operations k in
    let within = prefix_len-le-length (λ o. o == own) (drop k operations) in
    let passes = prefix_len_passes (λ o. o == own) (drop k operations) (q - k) 0 (omega (arith, from, to)) in
    let place : k + (q - k) ≡ q = omega (arith, from) in (
      omega (arith, within, length-drop k operations, less, from, to),
      ap (slice_index operations) (sym place) ∙ (sym (get_or-drop k operations (q - k) 0) ∙ eqb-true _ own passes),
    )

module _ (c : Choice) where
  -- neighbours in the group are twins
  abbrev HasTwins : Group → Type 0
  HasTwins g = (p : ℕ) → g.first ≤ p → p + 1 < g.first + g.count → AreTwins (raw_choice_of c) p

  twins_in_a : (k : ℕ) → k < length c.a → HasTwins (group_at A 0 c.a k)
  twins_in_a k less p from to =
      let here = same_operation c.a k p less (omega (arith, from)) (omega (arith, to)) in
      let next = same_operation c.a k (p + 1) less (omega (arith, from)) (omega (arith, to)) in
      let at : (q : ℕ) → q < length c.a → slice_index (c.a ++ c.b) q ≡ slice_index c.a q = λ q l. get_or_append_left c.a c.b 0 q l in record {
        inside = omega (arith, next.0, length-append c.a c.b);
        operation = at p here.0 ∙ (here.1 ∙ sym (at (p + 1) next.0 ∙ next.1));
        team = marks_front (length c.a) p (replicate (length c.b) B) here.0 ∙ sym (marks_front (length c.a) (p + 1) (replicate (length c.b) B) next.0);
      }

  twins_in_b : (k : ℕ) → k < length c.b → HasTwins (group_at B (length c.a) c.b k)
  twins_in_b k less p from to =
      let m = length c.a in
      let here = same_operation c.b k (p - m) less (omega (arith, from)) (omega (arith, from, to)) in
      let next = same_operation c.b k (p + 1 - m) less (omega (arith, from)) (omega (arith, from, to)) in
      let at : (q : ℕ) → m ≤ q → slice_index (c.a ++ c.b) q ≡ slice_index c.b (q - m) = λ q l. get_or-append_right c.a c.b m q 0 refl l in
      let low : p + 1 < m + length c.b = omega (arith, next.0, from) in record {
        inside = omega (arith, low, length-append c.a c.b);
        operation = at p (omega (arith, from)) ∙ (here.1 ∙ sym (at (p + 1) (omega (arith, from)) ∙ next.1));
        team = marks_back m (length c.b) p (omega (arith, from)) (omega (arith, low)) ∙ sym (marks_back m (length c.b) (p + 1) (omega (arith, from)) low);
      }

  piece_has : (team : Team) (first : ℕ) (operations : List ℕ) (k : ℕ) → HasTwins (group_at team first operations k) → All HasTwins (group_if team first operations k)
  piece_has team first operations k here = by_test (begins_group operations k)
    where
      by_test : (b : Bool) → All HasTwins (cond {A = List Group} b (group_at team first operations k ∷ []) [])
      by_test true = All-cons HasTwins (group_at team first operations k) [] here (All-nil HasTwins)
      by_test false = All-nil HasTwins

  all_twins : All HasTwins (groups_of c)
  all_twins =
      All-append HasTwins (groups A 0 c.a) (groups B (length c.a) c.b)
      (All-pieces (group_if A 0 c.a) HasTwins 0 (length c.a) (λ k from less. piece_has A 0 c.a k (twins_in_a k (omega (arith, less)))))
      (All-pieces (group_if B (length c.a) c.b) HasTwins 0 (length c.b) (λ k from less. piece_has B (length c.a) c.b k (twins_in_b k (omega (arith, less)))))

-- so each process of a group sees what the first sees
module _ (t : TypeTable) (c : Choice) (same : (p : ℕ) → AreTwins (raw_choice_of c) p → (team : Team) → sights t c team p ≡ sights t c team (p + 1)) where
  pub same_in_group : (g : Group) → Contains (groups_of c) g → (p : ℕ) → g.first ≤ p → p < g.first + g.count → (team : Team) → sights t c team p ≡ sights t c team g.first
  same_in_group g in_list p from to team = by_steps (p - g.first) p (omega (arith, from)) to
    where
      by_steps : (k q : ℕ) → q ≡ g.first + k → q < g.first + g.count → sights t c team q ≡ sights t c team g.first
      by_steps zero q e less = let first : q ≡ g.first = omega (arith, e) in ap (sights t c team) first
      by_steps (suc k) q e less =
          let before : g.first + k + 1 ≡ q = omega (arith, e) in
          let twins = All-contains (HasTwins c) (groups_of c) g (all_twins c) in_list (g.first + k) (omega arith) (omega (arith, e, less)) in
          ap (sights t c team) (sym before) ∙ (sym (same (g.first + k) twins team) ∙ by_steps k (g.first + k) refl (omega (arith, e, less)))
