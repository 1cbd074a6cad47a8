-- What an order shows if processes that are not in it change their operations.
use Rattle.std.proofs.Common.{◌≡◌, ℕ, zero, suc, ◌+◌, ◌<◌, ◌≤◌, List, [], ◌∷◌, ◌++◌, length, length-append, take, get_or, refl, sym, ap, ◌∙◌, subst, arith, All, replicate}
use Rattle.std.specs.Prelude.{option_map, position, slice_index, ◌==◌}
use Rattle.std.specs.List.{AllByRecursion}
use Rattle.std.proofs.lemmas.List.Elements.{recursion_from_All}
use Rattle.cn_table.specs.Run.{run}
use Rattle.cn_table.specs.TypeTable.{TypeTable}
use Rattle.cn_choice.specs.declared.team.Team.TheVariants.{A, B}
use Rattle.cn_choice.specs.declared.team.Team.{Team}
use Rattle.cn_choice.specs.Canonical.{Choice, raw_choice_of}
use Rattle.cn_choice.specs.Collisions.{Collision, IsCollision}
use Rattle.cn_choice.specs.Orders.{IsOrder}
use Rattle.cn_choice.specs.OutcomeSets.{operations_of, pair_of}
use Rattle.cn_choice.specs.RawChoices.{RawChoice}
use Rattle.cn_check.specs.EntryTexts.{IsShown}

-- lists with the same front agree in it
front_same : (place : ℕ) (xs ys : List ℕ) (i : ℕ) → take place xs ≡ take place ys → i < place → get_or xs i 0 ≡ get_or ys i 0
front_same zero xs ys i e l = absurd (omega (arith, l))
front_same (suc place) [] [] i e l = refl
front_same (suc place) [] (y ∷ ys) i e l = absurd (cc e)
front_same (suc place) (x ∷ xs) [] i e l = absurd (cc e)
front_same (suc place) (x ∷ xs) (y ∷ ys) zero e l = cc e
front_same (suc place) (x ∷ xs) (y ∷ ys) (suc i) e l = front_same place xs ys i (cc e) (omega (arith, l))

-- so do they behind the same list
behind_same : (a b d : List ℕ) (place i : ℕ) → take place b ≡ take place d → i < length a + place → get_or (a ++ b) i 0 ≡ get_or (a ++ d) i 0
behind_same [] b d place i e l = front_same place b d i e (omega (arith, l))
behind_same (x ∷ a) b d place zero e l = refl
behind_same (x ∷ a) b d place (suc i) e l = behind_same a b d place i e (omega (arith, l))

-- two raw choices of one state, with operations that are the same up to a process
module _ (t : TypeTable) (state greatest : ℕ) (operations others : List ℕ) (marks : List Team) (same : (p : ℕ) → p ≤ greatest → get_or operations p 0 ≡ get_or others p 0) where
  abbrev one : RawChoice
  one = record { state = state; operations = operations; marks = marks }

  abbrev other : RawChoice
  other = record { state = state; operations = others; marks = marks }

  same_operations : (order : List ℕ) → AllByRecursion (λ p. p ≤ greatest) order → operations_of one order ≡ operations_of other order
  same_operations [] up_to = refl
  same_operations (p ∷ order) up_to = rw (same p up_to.0, same_operations order up_to.1) refl

  same_pair : (order : List ℕ) (j : ℕ) → All (λ p. p ≤ greatest) order → pair_of t one order j ≡ pair_of t other order j
  unfolding pair_of
  same_pair order j up_to =
      ap (λ (os : List ℕ). let ran = run t state os in option_map (λ place. (slice_index ran.0 place, ran.1)) (position (λ process. process == j) order))
      (same_operations order (recursion_from_All (λ p. p ≤ greatest) order up_to))

  collides_again : (j : ℕ) (alpha beta : List ℕ) → length operations ≡ length others → All (λ p. p ≤ greatest) alpha → All (λ p. p ≤ greatest) beta → IsCollision t one j alpha beta
      → IsCollision t other j alpha beta
  collides_again j alpha beta long a b is =
      let e = same_pair alpha j a in
      let f = same_pair beta j b in
      record {
        alpha_order = subst (λ (n : ℕ). IsOrder n alpha) long is.alpha_order;
        beta_order = subst (λ (n : ℕ). IsOrder n beta) long is.beta_order;
        alpha_in_a = is.alpha_in_a;
        beta_in_b = is.beta_in_b;
        takes_part = λ none. is.takes_part (e ∙ none);
        same = sym e ∙ (is.same ∙ f);
      }

-- evidence that no changed operation touches stays right
pub shown_still : (t : TypeTable) (state : ℕ) (a b d text : List ℕ) (greatest place : ℕ) → length d ≡ length b → take place d ≡ take place b → greatest < length a + place
    → IsShown t (record { state = state; a = a; b = b }) text greatest → IsShown t (record { state = state; a = a; b = d }) text greatest
shown_still t state a b d text greatest place long same below is =
    let before : Choice = record { state = state; a = a; b = b } in
    let after : Choice = record { state = state; a = a; b = d } in
    let x = is.entry in
    let y : Collision = record { choice = after; process = x.process; alpha = x.alpha; beta = x.beta } in
    let marks : List Team = replicate (length a) A ++ replicate (length b) B in
    let longs : length (a ++ b) ≡ length (a ++ d) = length-append a b ∙ (omega (arith, long) ∙ sym (length-append a d)) in
    let again : IsCollision t (record { state = state; operations = a ++ d; marks = marks }) x.process x.alpha x.beta =
    collides_again t state greatest (a ++ b) (a ++ d) marks (λ p l. behind_same a b d place p (sym same) (omega (arith, l, below))) x.process x.alpha x.beta longs is.alpha_up_to is.beta_up_to
    (subst (λ (c : Choice). IsCollision t (raw_choice_of c) x.process x.alpha x.beta) is.of_choice is.collides) in
    record {
      entry = y;
      of_choice = refl;
      collides = subst (λ (k : ℕ). IsCollision t (record { state = state; operations = a ++ d; marks = replicate (length a) A ++ replicate k B }) x.process x.alpha x.beta) (sym long) again;
      process_small = is.process_small;
      alpha_short = is.alpha_short;
      beta_short = is.beta_short;
      spelled = is.spelled;
      alpha_up_to = is.alpha_up_to;
      beta_up_to = is.beta_up_to;
    }
