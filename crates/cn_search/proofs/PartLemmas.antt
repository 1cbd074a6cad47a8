-- The parts of the evidence.
use Rattle.std.proofs.Common.{◌≡◌, ℕ, ◌+◌, ◌<◌, List, [], ◌∷◌, ◌++◌, suc, zero, All, Option, Some, None, inl, inr, ap, arith, drop, get_or, get_or-set_same, length, length-set, refl, subst, sym, ◌∙◌}
use Rattle.std.proofs.Math.ListN.{set}
use Rattle.std.specs.Prelude.{IfSome}
use Rattle.std.specs.List.{AllByRecursion, AllZip}
use Rattle.std.proofs.lemmas.List.{drop_more, get_or-set_other, get_or_default, length-drop}
use Rattle.std.proofs.lemmas.List.Elements.{All-from_recursion, All-head, All-tail}
use Rattle.std.proofs.lemmas.Option.{same_Some, slice_get_read, slice_get_within}
use Rattle.cn_table.specs.TypeTable.{TypeTable}
use Rattle.cn_choice.specs.Blocks.{Block}
use Rattle.cn_choice.specs.Collisions.{Collision}
use Rattle.cn_outcomes.proofs.LastProcess.{same_or_not}
use Rattle.cn_choice.specs.Live.{live_in}
use Rattle.cn_search.specs.Kept.{KeepsFor}
use Rattle.cn_search.specs.Parts.{AreSlots, IsOfBlock}

-- what holds of all items holds of the first one and of the others
pub first_and_others : {X : Type 0} (P : X → Type 0) (x : X) (rest all : List X) → all ≡ x ∷ rest → All P all → P x × All P rest
first_and_others {X = X} P x rest all e h =
    let whole = subst (λ (l : List X). All P l) e h in
    (All-head P x rest whole, All-tail P x rest whole)

-- what holds of each second item of a list of pairs holds of all
pub seconds : {X Y : Type 0} (P : Y → Type 0) (xs : List X) (ys : List Y) → AllZip (λ x y. P y) xs ys → All P ys
seconds {X = X} {Y = Y} P xs ys h = All-from_recursion P ys (go xs ys h)
  where
    go : (xs : List X) (ys : List Y) → AllZip (λ x y. P y) xs ys → AllByRecursion P ys
    go [] [] h = tt
    go [] (y ∷ ys) h = absurd h
    go (x ∷ xs) [] h = absurd h
    go (x ∷ xs) (y ∷ ys) h = (h.0, go xs ys h.1)

cons_parts : {X : Type 0} (x y : X) (xs ys : List X) → x ∷ xs ≡ y ∷ ys → (x ≡ y) × (xs ≡ ys)
cons_parts x y xs ys e = (cc e, cc e)

-- the first of the items from a place on, and those behind it
pub first_of_left : {X : Type 0} (xs rest : List X) (place : ℕ) (x : X) → x ∷ rest ≡ drop place xs → (place < length xs) × ((get_or xs place x ≡ x) × (rest ≡ drop (place + 1) xs))
first_of_left {X = X} xs rest place x e =
    let within : place < length xs = omega (arith, ap (λ (l : List X). length l) e, length-drop place xs) in
    let both = cons_parts x (get_or xs place x) rest (drop (place + 1) xs) (e ∙ drop_more xs place x within) in
    (within, (sym both.0, both.1))

-- one more empty slot behind empty ones
pub one_more_empty : {E : Type 0} (slots : List (Option E)) → ((place : ℕ) → get_or slots place None ≡ None) → (place : ℕ) → get_or (slots ++ None ∷ []) place None ≡ None
one_more_empty [] h zero = refl
one_more_empty [] h (suc place) = refl
one_more_empty (slot ∷ slots) h zero = h zero
one_more_empty (slot ∷ slots) h (suc place) = one_more_empty slots (λ k. h (suc k)) place

module _ {E : Type 0} (keeps : E → List Collision → Type 0) (t : TypeTable) (blocks : List Block) where
  -- a slot is filled with the evidence of its block
  pub filled : (slots : List (Option E)) (place : ℕ) (form : E) → AreSlots keeps t blocks slots → IsOfBlock keeps t blocks place form → AreSlots keeps t blocks (set slots place (Some form))
  filled slots place form are is = record {
    long = length-set slots place (Some form) ∙ are.long;
    are = λ p other h. elim (same_or_not p place) [
      | inl e ↦ (
          let within : place < length slots = omega (arith, are.long, slice_get_within blocks place is.block is.stands) in
          let same : Some form ≡ Some other = sym (get_or-set_same slots place (Some form) None within) ∙ (ap (λ (k : ℕ). get_or (set slots place (Some form)) k None) (sym e) ∙ h) in
          subst (λ (k : ℕ). IsOfBlock keeps t blocks k other) (sym e) (subst (λ (f : E). IsOfBlock keeps t blocks place f) (same_Some form other same) is)
          )
      | inr n ↦ are.are p other (sym (get_or-set_other slots place p (Some form) None n) ∙ h)
    ];
  }

  -- what stands in a slot keeps the collisions of its block
  pub kept_in_slot : (slots : List (Option E)) (place : ℕ) → AreSlots keeps t blocks slots → (block : Block) (slot : Option E) → place < length slots
      → get_or slots place slot ≡ slot → block ≡ get_or blocks place block
      → IfSome slot (KeepsFor keeps t (live_in t block))
  kept_in_slot slots place are block None within e b = tt
  kept_in_slot slots place are block (Some form) within e b =
      let is = are.are place form (get_or_default slots place None (Some form) within ∙ e) in
      let inside : place < length blocks = omega (arith, within, are.long) in
      let same : is.block ≡ block = same_Some is.block block (sym is.stands ∙ slice_get_read blocks (length blocks) place block refl inside b) in
      subst (λ (k : Block). KeepsFor keeps t (live_in t k) form) same is.kept
