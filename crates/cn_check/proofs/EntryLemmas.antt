-- One entry more.
use Rattle.std.proofs.Common.{◌≡◌, ◌≢◌, ℕ, ◌+◌, ◌<◌, ◌∙◌, sym, subst, below_more, arith, List, [], length, get_or, Option, Some}
use Rattle.std.specs.Prelude.{IsSomeAnd, slice_get}
use Rattle.std.proofs.lemmas.Option.{none-some, same_Some, slice_get-get_or, slice_get_past}
use Rattle.cn_table.specs.TypeTable.{TypeTable}
use Rattle.cn_choice.specs.Canonical.{Choice}
use Rattle.cn_choice.specs.Collisions.{Collision}
use Rattle.cn_check.specs.Conditions.{HoldsCollision}
use Rattle.cn_check.specs.Refutations.{AreRefuted, IsOfChoice}

pub some_at : {X : Type 0} (P : X → Type 0) (o : Option X) (x : X) → o ≡ Some x → P x → IsSomeAnd o P
some_at P o x e p = subst (λ u. IsSomeAnd u P) (sym e) p

module _ (t : TypeTable) (choices : List Choice) (entries : List Collision) (place : ℕ) (choice : Choice) (entry : Collision) (here : slice_get choices place ≡ Some choice)
    (at : slice_get entries place ≡ Some entry) where
  pub of_other_choice : entry.choice ≢ choice → IsSomeAnd (slice_get entries place) (λ e. ¬ IsOfChoice choices place e)
  of_other_choice other = some_at (λ e. ¬ IsOfChoice choices place e) (slice_get entries place) entry at (λ same. other (sym (same_Some choice entry.choice (sym here ∙ same))))

  of_choice : entry.choice ≡ choice → IsOfChoice choices place entry
  of_choice same = subst (λ c. slice_get choices place ≡ Some c) (sym same) here

  pub no_collision : entry.choice ≡ choice → ¬ HoldsCollision t entry → IsSomeAnd (slice_get entries place) (λ e. IsOfChoice choices place e × ¬ HoldsCollision t e)
  no_collision same none = some_at (λ e. IsOfChoice choices place e × ¬ HoldsCollision t e) (slice_get entries place) entry at (of_choice same, none)

  pub refuted_more : entry.choice ≡ choice → HoldsCollision t entry → AreRefuted t choices entries place → AreRefuted t choices entries (place + 1)
  refuted_more same holds so_far = below_more (λ i. IsSomeAnd (slice_get entries i) (λ e. IsOfChoice choices i e × HoldsCollision t e)) place so_far
      (some_at (λ e. IsOfChoice choices place e × HoldsCollision t e) (slice_get entries place) entry at (of_choice same, holds))

-- an entry past the choices is of none of them
pub past_end : (choices : List Choice) (entries : List Collision) (place : ℕ) → place ≡ length choices → place < length entries
    → IsSomeAnd (slice_get entries place) (λ e. ¬ IsOfChoice choices place e)
past_end choices entries place end l =
    let none : Collision = record { choice = record { state = 0; a = []; b = [] }; process = 0; alpha = []; beta = [] } in
    some_at (λ e. ¬ IsOfChoice choices place e) (slice_get entries place) (get_or entries place none) (slice_get-get_or entries place none l)
    (λ same. none-some (get_or entries place none).choice (sym (slice_get_past choices place (omega (arith, end))) ∙ same))
