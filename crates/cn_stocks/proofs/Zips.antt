-- What two lists say of each other place by place.
use Rattle.std.proofs.Common.{◌≡◌, ℕ, zero, suc, List, [], ◌∷◌, length, get_or, refl, sym, ap, ◌∙◌, subst, Some}
use Rattle.std.specs.Prelude.{slice_get}
use Rattle.std.specs.List.{AllZip}
use Rattle.std.proofs.lemmas.Option.{get_or_from_slice_get, none-some, same_Some}

module _ {X Y : Type 0} (R : X → Y → Type 0) where
  pub zip_long : (xs : List X) (ys : List Y) → AllZip R xs ys → length xs ≡ length ys
  zip_long [] [] h = refl
  zip_long [] (y ∷ ys) h = absurd h
  zip_long (x ∷ xs) [] h = absurd h
  zip_long (x ∷ xs) (y ∷ ys) h = ap suc (zip_long xs ys h.1)

  pub zip_at : (xs : List X) (ys : List Y) → AllZip R xs ys → (i : ℕ) (x : X) → slice_get xs i ≡ Some x → (y : Y) × (slice_get ys i ≡ Some y) × R x y
  zip_at [] ys h i x e = absurd (none-some x e)
  zip_at (x ∷ xs) [] h i z e = absurd h
  zip_at (x ∷ xs) (y ∷ ys) h zero z e = (y, refl, subst (λ (w : X). R w y) (same_Some x z e) h.0)
  zip_at (x ∷ xs) (y ∷ ys) h (suc i) z e = zip_at xs ys h.1 i z e

  pub zip_back : (xs : List X) (ys : List Y) → AllZip R xs ys → (i : ℕ) (y : Y) → slice_get ys i ≡ Some y → (x : X) × (slice_get xs i ≡ Some x) × R x y
  zip_back [] [] h i y e = absurd (none-some y e)
  zip_back [] (z ∷ ys) h i y e = absurd h
  zip_back (x ∷ xs) [] h i y e = absurd h
  zip_back (x ∷ xs) (y ∷ ys) h zero z e = (x, refl, subst (R x) (same_Some y z e) h.0)
  zip_back (x ∷ xs) (y ∷ ys) h (suc i) z e = zip_back xs ys h.1 i z e

  -- what is read of the second list
  pub zip_read : (xs : List X) (ys : List Y) → AllZip R xs ys → (i : ℕ) (x : X) (y : Y) → slice_get xs i ≡ Some x → y ≡ get_or ys i y → R x y
  zip_read xs ys h i x y at e =
      let r = zip_at xs ys h i x at in
      subst (R x) (sym (get_or_from_slice_get ys i r.0 y r.1) ∙ sym e) r.2

  pub zip_none : (xs : List X) (ys : List Y) → xs ≡ [] → ys ≡ [] → AllZip R xs ys
  zip_none xs ys e f = subst (λ (us : List X). AllZip R us ys) (sym e) (subst (λ (vs : List Y). AllZip R [] vs) (sym f) tt)
